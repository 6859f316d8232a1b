-- The characters of what is read are scalars, where those of the text are.
use Rattle.std.proofs.Common.{◌≡◌, ℕ, Bool, true, false, not, ◌||◌, ◌==◌, List, [], ◌∷◌, length, drop, slice_index, Ok, refl}
use Rattle.std.specs.Prelude.{if◌then◌else◌}
use Rattle.std.specs.Char.{IsScalar}
use Rattle.std.proofs.lemmas.Bool.{and_parts}
use lib.Utf8.{scalar, scalars}
use Rattle.rx_reader.specs.declared.config.Config.{Config}
use Rattle.rx_reader.specs.declared.flags.Flags.{Flags}
use Rattle.rx_reader.specs.declared.piece.Piece.{Piece}
use Rattle.rx_reader.specs.declared.escape.Escaped.{Escaped}
use Rattle.rx_reader.specs.declared.escape.Escaped.TheVariants as escapes
use Rattle.rx_reader.specs.declared.atom.Atom.TheVariants as atoms
use Rattle.rx_reader.specs.declared.opening.Opening.{Opening}
use Rattle.rx_reader.specs.declared.opening.Opening.TheVariants.{Group, Directive as Turns}
use Rattle.rx_reader.specs.declared.token.Token.{Token}
use Rattle.rx_reader.specs.Config.{octal_of}
use Rattle.rx_reader.specs.Reading.{Place, Read, at_end, first, is_at, begins, has_name, ◌∈◌}
use Rattle.rx_reader.specs.Ahead.{past_n}
use Rattle.rx_reader.specs.Names.{name_of, read_name}
use Rattle.rx_reader.specs.Openings.{is_look_ahead, is_look_behind, is_reference, named, flagged, opening}
use Rattle.rx_reader.specs.Syntax.{Syntax, literal, atom}
use Rattle.rx_reader.specs.Characters.{AllIn, AllInEach}
use Rattle.rx_reader.specs.Grammar.{opened, opens, escaped_atom, escaped, bracketed, is_operator, stray_operator, token_of, token, read}
use Rattle.rx_reader.proofs.lemmas.places.GivesLemmas.{Gives, refused, reads, bind, test, both, Keeps, Carries}
use Rattle.rx_reader.proofs.lemmas.tokens.EscapeKeeps.{AllInEscaped, past_n-keeps, escape-keeps, class-keeps}
use Rattle.rx_reader.proofs.lemmas.tokens.TokenKeeps.{skip-keeps, read_flags-keeps, operator-keeps}
use Rattle.rx_reader.proofs.lemmas.patterns.OrderLemmas.{operator-order}
use Rattle.rx_reader.proofs.lemmas.patterns.WholeLemmas.{InToken, Stays, read-stays}

-- the characters from the place on are scalars
abbrev Scalars : Place → Type 0
Scalars p = scalars p.text ≡ true

rest-scalars : (cs : List ℕ) → scalars cs ≡ true → scalars (drop 1 cs) ≡ true
rest-scalars [] is = refl
rest-scalars (c ∷ cs) is = (and_parts (scalar c) (scalars cs) is).1

first-scalar : (cs : List ℕ) → scalars cs ≡ true → IsScalar (slice_index cs 0)
first-scalar [] is = refl
first-scalar (c ∷ cs) is = (and_parts (scalar c) (scalars cs) is).0

carry : Carries Scalars IsScalar
carry = record { on = λ p at. rest-scalars p.text at; first = λ p at. first-scalar p.text at; scalars = λ c is. is }

-- Tokens.

past_n-scalars : (n : ℕ) (p : Place) → Scalars p → Scalars (past_n n p)
past_n-scalars = past_n-keeps Scalars IsScalar carry

read_name-scalars : (p : Place) → Scalars p → Keeps Scalars (read_name p)
unfolding read_name
read_name-scalars p at =
    let name : List ℕ = name_of p.text in
    let q : Place = past_n (length name) p in
    test (length name == 0 || not (is_at ">" q)) (λ _. refused) (λ _. test (has_name name q) (λ _. refused) (λ _.
    reads (carry.on q (past_n-scalars (length name) p at))))

named-scalars : (flags : Flags) (p : Place) → Scalars p → Keeps Scalars (named flags p)
unfolding named
named-scalars flags p at = bind _ (read_name-scalars p at) (λ name q here. reads here)

flagged-scalars : (flags : Flags) (p : Place) → Scalars p → Keeps Scalars (flagged flags p)
unfolding flagged
flagged-scalars flags p at =
    bind _ (read_flags-keeps Scalars IsScalar carry p flags (past_n 2 p) (past_n-scalars 2 p at)) (λ changed q here. reads (carry.on q here))

opening-scalars : (flags : Flags) (p : Place) → Scalars p → Keeps Scalars (opening flags p)
unfolding opening
opening-scalars flags p at =
    test (is_look_ahead p) (λ _. refused) (λ _.
    test (is_look_behind p) (λ _. refused) (λ _.
    test (is_reference p) (λ _. refused) (λ _.
    test (begins "(?P<" p) (λ _. named-scalars flags (past_n 4 p) (past_n-scalars 4 p at)) (λ _.
    test (begins "(?<" p) (λ _. named-scalars flags (past_n 3 p) (past_n-scalars 3 p at)) (λ _.
    test (begins "(?" p) (λ _. flagged-scalars flags p at) (λ _. reads (carry.on p at)))))))

abbrev AllInToken : Token → Type 0
AllInToken t = InToken (AllIn IsScalar) t

abbrev KeepsToken : Read Token → Type 0
KeepsToken r = Gives (λ t q. AllInToken t × Scalars q) r

opened-none : (o : Opening) → AllInToken (opened o)
opened-none (Group kind inside) = tt
opened-none (Turns next) = tt

opens-scalars : (flags : Flags) (p : Place) → Scalars p → KeepsToken (opens flags p)
unfolding opens
opens-scalars flags p at = bind _ (opening-scalars flags p at) (λ o q here. reads (opened-none o, here))

character-scalars : (b : Bool) (flags : Flags) (piece : Piece) (c : ℕ) → IsScalar c
    → AllIn IsScalar (if b then atom flags piece (atoms.HexByte c) else literal flags c)
unfolding AllIn
character-scalars true flags piece c is = is
character-scalars false flags piece c is = is

escaped_atom-scalars : (flags : Flags) (piece : Piece) (e : Escaped) → AllInEscaped IsScalar e → AllIn IsScalar (escaped_atom flags piece e)
unfolding AllIn
escaped_atom-scalars flags piece (escapes.Character c) own = character-scalars c.is_hex_byte flags piece c.character own
escaped_atom-scalars flags piece (escapes.Assertion kind) own = tt
escaped_atom-scalars flags piece (escapes.Perl kind negated) own = tt
escaped_atom-scalars flags piece (escapes.Property name negated) own = tt

module _ (config : Config) where
  escaped-scalars : (flags : Flags) (p : Place) → Scalars p → KeepsToken (escaped config flags p)
  unfolding escaped
  escaped-scalars flags p at = bind _ (escape-keeps Scalars IsScalar carry (octal_of config) p at)
      (λ e q here. reads (escaped_atom-scalars flags _ e here.0, here.1))

  bracketed-scalars : (flags : Flags) (p : Place) → Scalars p → KeepsToken (bracketed config flags p)
  unfolding bracketed AllIn
  bracketed-scalars flags p at = bind _ (class-keeps Scalars IsScalar carry (octal_of config) flags.ignore_whitespace p at) (λ a q here. reads here)

  token_of-scalars : (c : ℕ) (flags : Flags) (p : Place) → IsScalar c → Scalars p → KeepsToken (token_of config c flags p)
  unfolding token_of AllIn
  token_of-scalars c flags p is at =
      let on = carry.on p at in
      test (c ∈ "|") (λ _. reads (tt, on)) (λ _.
      test (c ∈ ")") (λ _. reads (tt, on)) (λ _.
      test (c ∈ "(") (λ _. opens-scalars flags p at) (λ _.
      test (c ∈ "[") (λ _. bracketed-scalars flags p at) (λ _.
      test (c ∈ "\\") (λ _. escaped-scalars flags p at) (λ _.
      test (c ∈ ".") (λ _. reads (tt, on)) (λ _.
      test (c ∈ "^") (λ _. reads (tt, on)) (λ _.
      test (c ∈ "$") (λ _. reads (tt, on)) (λ _. reads (is, on)))))))))

  stray_operator-scalars : (p : Place) → KeepsToken (stray_operator p)
  stray_operator-scalars p = test (begins "{," p) (λ _. refused) (λ _. refused)

  token-scalars : (flags : Flags) (p : Place) → Scalars p → KeepsToken (token config flags p)
  unfolding token
  token-scalars flags p at =
      test (at_end p) (λ _. reads (tt, at)) (λ _.
      test (is_operator p) (λ _. stray_operator-scalars p) (λ _. token_of-scalars (first p) flags p (carry.first p at) at))

stays : (config : Config) → Stays config Scalars (AllIn IsScalar) (AllInEach IsScalar)
unfolding AllIn
stays config = record {
  on = carry.on;
  over = λ flags p at. skip-keeps Scalars IsScalar carry flags p at;
  tokens = token-scalars config;
  operators = λ flags p at. both (operator-order flags p) (operator-keeps Scalars IsScalar carry flags p at);
  repeats = λ o s in_order own. own;
  groups = λ kind s own. own;
  cats = λ ss own. own;
  alts = λ ss own. own;
  none = tt;
  more = λ s ss one rest. (one, rest);
}

pub read-scalars : (config : Config) (text : List ℕ) (s : Syntax) → scalars text ≡ true → read config text ≡ Ok s → AllIn IsScalar s
read-scalars config text s are is = read-stays config Scalars (AllIn IsScalar) (AllInEach IsScalar) (stays config) text s are is
