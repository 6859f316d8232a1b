-- The counts of each repetition that is read are in order.
use Rattle.std.proofs.Common.{◌≡◌, ℕ, Bool, true, false, List, Ok}
use Rattle.std.specs.Prelude.{if◌then◌else◌}
use Rattle.rx_reader.specs.declared.config.Config.{Config}
use Rattle.rx_reader.specs.declared.flags.Flags.{Flags}
use Rattle.rx_reader.specs.declared.piece.Piece.{Piece}
use Rattle.rx_reader.specs.declared.escape.Escaped.{Escaped}
use Rattle.rx_reader.specs.declared.escape.Escaped.TheVariants as escapes
use Rattle.rx_reader.specs.declared.atom.Atom.TheVariants as atoms
use Rattle.rx_reader.specs.declared.opening.Opening.{Opening}
use Rattle.rx_reader.specs.declared.opening.Opening.TheVariants.{Group, Directive as Turns}
use Rattle.rx_reader.specs.declared.token.Token.{Token}
use Rattle.rx_reader.specs.Config.{octal_of}
use Rattle.rx_reader.specs.Reading.{Place, at_end, first, begins, ◌∈◌}
use Rattle.rx_reader.specs.Escapes.{escape}
use Rattle.rx_reader.specs.Classes.{class}
use Rattle.rx_reader.specs.Counts.{AreInOrder}
use Rattle.rx_reader.specs.Openings.{opening}
use Rattle.rx_reader.specs.Syntax.{Syntax, Syntaxes, literal, atom, repeated, group, cat, alt, nil, cons}
use Rattle.rx_reader.specs.Grammar.{opened, opens, escaped_atom, escaped, bracketed, is_operator, stray_operator, token_of, token, read}
use Rattle.rx_reader.proofs.lemmas.places.GivesLemmas.{Gives, refused, reads, bind, test, any, weaker}
use Rattle.rx_reader.proofs.lemmas.patterns.OrderLemmas.{operator-order}
use Rattle.rx_reader.proofs.lemmas.patterns.WholeLemmas.{InToken, Stays, read-stays}

-- the counts are in order of each repetition in
unfoldable mutual
  -- the syntax
  pub InOrder : Syntax → Type 0
  InOrder (literal flags c) = Unit {0}
  InOrder (atom flags piece a) = Unit {0}
  InOrder (repeated min max greedy body) = AreInOrder min max × InOrder body
  InOrder (group kind body) = InOrder body
  InOrder (cat items) = EachInOrder items
  InOrder (alt branches) = EachInOrder branches

  -- each of the list
  pub EachInOrder : Syntaxes → Type 0
  EachInOrder nil = Unit {0}
  EachInOrder (cons s ss) = InOrder s × EachInOrder ss

-- A token is no repetition.

abbrev IsToken : Token → Place → Type 0
IsToken t q = InToken InOrder t × Unit {0}

opened-order : (o : Opening) → InToken InOrder (opened o)
opened-order (Group kind inside) = tt
opened-order (Turns next) = tt

opens-order : (flags : Flags) (p : Place) → Gives IsToken (opens flags p)
unfolding opens
opens-order flags p = bind _ (any (opening flags p)) (λ o q _. reads (opened-order o, tt))

character-order : (b : Bool) (flags : Flags) (piece : Piece) (c : ℕ) → InOrder (if b then atom flags piece (atoms.HexByte c) else literal flags c)
unfolding InOrder
character-order true flags piece c = tt
character-order false flags piece c = tt

escaped_atom-order : (flags : Flags) (piece : Piece) (e : Escaped) → InOrder (escaped_atom flags piece e)
unfolding InOrder
escaped_atom-order flags piece (escapes.Character c) = character-order c.is_hex_byte flags piece c.character
escaped_atom-order flags piece (escapes.Assertion kind) = tt
escaped_atom-order flags piece (escapes.Perl kind negated) = tt
escaped_atom-order flags piece (escapes.Property name negated) = tt

module _ (config : Config) where
  escaped-order : (flags : Flags) (p : Place) → Gives IsToken (escaped config flags p)
  unfolding escaped
  escaped-order flags p = bind _ (any (escape (octal_of config) p)) (λ e q _. reads (escaped_atom-order flags _ e, tt))

  bracketed-order : (flags : Flags) (p : Place) → Gives IsToken (bracketed config flags p)
  unfolding bracketed InOrder
  bracketed-order flags p = bind _ (any (class (octal_of config) flags.ignore_whitespace p)) (λ a q _. reads (tt, tt))

  token_of-order : (c : ℕ) (flags : Flags) (p : Place) → Gives IsToken (token_of config c flags p)
  unfolding token_of InOrder
  token_of-order c flags p =
      test (c ∈ "|") (λ _. reads (tt, tt)) (λ _.
      test (c ∈ ")") (λ _. reads (tt, tt)) (λ _.
      test (c ∈ "(") (λ _. opens-order flags p) (λ _.
      test (c ∈ "[") (λ _. bracketed-order flags p) (λ _.
      test (c ∈ "\\") (λ _. escaped-order flags p) (λ _.
      test (c ∈ ".") (λ _. reads (tt, tt)) (λ _.
      test (c ∈ "^") (λ _. reads (tt, tt)) (λ _.
      test (c ∈ "$") (λ _. reads (tt, tt)) (λ _. reads (tt, tt)))))))))

  stray_operator-order : (p : Place) → Gives IsToken (stray_operator p)
  stray_operator-order p = test (begins "{," p) (λ _. refused) (λ _. refused)

  token-order : (flags : Flags) (p : Place) → Gives IsToken (token config flags p)
  unfolding token
  token-order flags p =
      test (at_end p) (λ _. reads (tt, tt)) (λ _.
      test (is_operator p) (λ _. stray_operator-order p) (λ _. token_of-order (first p) flags p))

stays : (config : Config) → Stays config (λ p. Unit {0}) InOrder EachInOrder
unfolding InOrder
stays config = record {
  on = λ p at. tt;
  over = λ flags p at. tt;
  tokens = λ flags p at. token-order config flags p;
  operators = λ flags p at. weaker (operator-order flags p) (λ o q in_order. (in_order, tt));
  repeats = λ o s in_order own. (in_order, own);
  groups = λ kind s own. own;
  cats = λ ss own. own;
  alts = λ ss own. own;
  none = tt;
  more = λ s ss one rest. (one, rest);
}

pub read-order : (config : Config) (text : List ℕ) (s : Syntax) → read config text ≡ Ok s → InOrder s
read-order config text s is = read-stays config (λ p. Unit {0}) InOrder EachInOrder (stays config) text s tt is
