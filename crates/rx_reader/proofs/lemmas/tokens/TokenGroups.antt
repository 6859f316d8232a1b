-- The group that a token opens.
use Rattle.std.proofs.Common.{◌≡◌, ℕ, ◌+◌, Bool, true, false, not, ◌||◌, ◌==◌, List, [], length, Option, Some, None, sym, ap, ◌∙◌}
use Rattle.std.specs.Prelude.{if◌then◌else◌}
use Rattle.std.specs.Ordering.{nat_cmp}
use Rattle.std.specs.Cmp.Lexicographic.{slice_cmp}
use Rattle.std.specs.BTreeSet.{insert_key}
use Rattle.rx_reader.specs.declared.config.Config.{Config}
use Rattle.rx_reader.specs.declared.flags.Flags.{Flags}
use Rattle.rx_reader.specs.declared.piece.Piece.{Piece}
use Rattle.rx_reader.specs.declared.escape.Escaped.{Escaped}
use Rattle.rx_reader.specs.declared.escape.Escaped.TheVariants as escapes
use Rattle.rx_reader.specs.declared.atom.Atom.{Atom}
use Rattle.rx_reader.specs.declared.atom.Atom.TheVariants as atoms
use Rattle.rx_reader.specs.declared.opening.Opening.{Opening}
use Rattle.rx_reader.specs.declared.opening.Opening.TheVariants.{Group, Directive as Turns}
use Rattle.rx_reader.specs.declared.group_kind.GroupKind.TheVariants.{NonCapturing}
use Rattle.rx_reader.specs.declared.token.Token.{Token}
use Rattle.rx_reader.specs.declared.token.Token.TheVariants.{End, Bar, Close, Opens, Directive, Atom as One}
use Rattle.rx_reader.specs.Config.{octal_of}
use Rattle.rx_reader.specs.Reading.{Place, at_end, first, past, is_at, begins, has_name, ◌∈◌}
use Rattle.rx_reader.specs.Ahead.{past_n}
use Rattle.rx_reader.specs.Syntax.{literal, atom}
use Rattle.rx_reader.specs.Names.{name_of, read_name}
use Rattle.rx_reader.specs.Openings.{is_look_ahead, is_look_behind, is_reference, named, flagged, opening}
use Rattle.rx_reader.specs.Grammar.{opened, opens, escaped_atom, escaped, bracketed, is_operator, stray_operator, token_of, token}
use Rattle.rx_reader.specs.Groups.{Captures, IsGroup, own_number, group_numbers}
use Rattle.rx_reader.proofs.lemmas.places.GivesLemmas.{Gives, refused, reads, bind, test, IsAt, groups-carry}
use Rattle.rx_reader.proofs.lemmas.patterns.CountedLemmas.{is_in, Counts, none, single, kept_in, added_in}
use Rattle.rx_reader.proofs.lemmas.tokens.EscapeKeeps.{past_n-keeps, escape-keeps, class-keeps}
use Rattle.rx_reader.proofs.lemmas.tokens.TokenKeeps.{read_flags-keeps}

-- the groups of a token: the one that it opens; an atom has none
abbrev pub TokenGroups : Token → ℕ → Option (List ℕ) → Type 0
TokenGroups (Opens kind inside) k n = Captures k n kind
TokenGroups (One item) k n = IsGroup k n item
TokenGroups End k n = ⊥
TokenGroups Bar k n = ⊥
TokenGroups Close k n = ⊥
TokenGroups (Directive next) k n = ⊥

-- the number of that group
abbrev pub token_numbers : Token → List ℕ
token_numbers (Opens kind inside) = own_number kind
token_numbers (One item) = group_numbers item
token_numbers End = []
token_numbers Bar = []
token_numbers Close = []
token_numbers (Directive next) = []

-- a name that was read is new, and stands among the names from then on
pub record Adds (g : ℕ) (ns : List (List ℕ)) (name : List ℕ) (q : Place) : Type 0 where
  pub same : q.groups ≡ g
  pub fresh : is_in name ns ≡ false
  pub added : q.names ≡ insert_key (slice_cmp nat_cmp) ns name

-- so many groups before, with these names
module _ (g : ℕ) (ns : List (List ℕ)) where
  read_name-adds : (p : Place) → IsAt g ns p → Gives (λ name q. Adds g ns name q) (read_name p)
  unfolding read_name
  read_name-adds p at =
      let name : List ℕ = name_of p.text in
      let q : Place = past_n (length name) p in
      let here : IsAt g ns q = past_n-keeps (IsAt g ns) _ (groups-carry g ns) (length name) p at in
      test (length name == 0 || not (is_at ">" q)) (λ _. refused) (λ _. test (has_name name q) (λ _. refused) (λ fresh.
      reads (record {
        same = here.0;
        fresh = ap (is_in name) (sym here.1) ∙ fresh;
        added = ap (λ (ms : List (List ℕ)). insert_key (slice_cmp nat_cmp) ms name) here.1;
      })))

  -- what an opening begins
  abbrev CountsOpening : Opening → Place → Type 0
  CountsOpening o q = Counts g ns q (λ k n. TokenGroups (opened o) k n) (token_numbers (opened o))

  named-counts : (flags : Flags) (p : Place) → IsAt g ns p → Gives CountsOpening (named flags p)
  unfolding named
  named-counts flags p at =
      bind _ (read_name-adds p at) (λ name q adds. reads (single (q.groups + 1) (Some name) (ap (λ (k : ℕ). k + 1) adds.same) (ap (λ (k : ℕ). k + 1) adds.same)
      (λ x h. ap (is_in x) adds.added ∙ kept_in x name ns h)
      (λ x is. let same : name ≡ x = cc in (
        ap (λ (y : List ℕ). is_in y ns) (sym same) ∙ adds.fresh,
        ap (λ (y : List ℕ). is_in y q.names) (sym same) ∙ ap (is_in name) adds.added ∙ added_in name ns,
      ))))

  flagged-kind : (b : Bool) (flags : Flags) (q : Place) → IsAt g ns q → CountsOpening (if b then Group NonCapturing flags else Turns flags) q
  flagged-kind true flags q at = none at
  flagged-kind false flags q at = none at

  flagged-counts : (flags : Flags) (p : Place) → IsAt g ns p → Gives CountsOpening (flagged flags p)
  unfolding flagged
  flagged-counts flags p at =
      bind _ (read_flags-keeps (IsAt g ns) _ (groups-carry g ns) p flags (past_n 2 p) (past_n-keeps (IsAt g ns) _ (groups-carry g ns) 2 p at))
      (λ changed q here. reads (flagged-kind (is_at ":" q) changed (past q) here))

  opening-counts : (flags : Flags) (p : Place) → IsAt g ns p → Gives CountsOpening (opening flags p)
  unfolding opening
  opening-counts flags p at =
      test (is_look_ahead p) (λ _. refused) (λ _.
      test (is_look_behind p) (λ _. refused) (λ _.
      test (is_reference p) (λ _. refused) (λ _.
      test (begins "(?P<" p) (λ _. named-counts flags (past_n 4 p) (past_n-keeps (IsAt g ns) _ (groups-carry g ns) 4 p at)) (λ _.
      test (begins "(?<" p) (λ _. named-counts flags (past_n 3 p) (past_n-keeps (IsAt g ns) _ (groups-carry g ns) 3 p at)) (λ _.
      test (begins "(?" p) (λ _. flagged-counts flags p at) (λ _.
      reads (single (p.groups + 1) None (ap (λ (k : ℕ). k + 1) at.0) (ap (λ (k : ℕ). k + 1) at.0) (λ x h. ap (is_in x) at.1 ∙ h) (λ x is. cc))))))))

  -- what a token begins
  abbrev pub CountsToken : Token → Place → Type 0
  CountsToken t q = Counts g ns q (λ k n. TokenGroups t k n) (token_numbers t)

  opens-counts : (flags : Flags) (p : Place) → IsAt g ns p → Gives CountsToken (opens flags p)
  unfolding opens
  opens-counts flags p at = bind _ (opening-counts flags p at) (λ o q counts. reads counts)

  -- an atom has no group
  atom-counts : (flags : Flags) (piece : Piece) (a : Atom) (q : Place) → IsAt g ns q → CountsToken (One (atom flags piece a)) q
  unfolding IsGroup group_numbers
  atom-counts flags piece a q at = none at

  literal-counts : (flags : Flags) (c : ℕ) (q : Place) → IsAt g ns q → CountsToken (One (literal flags c)) q
  unfolding IsGroup group_numbers
  literal-counts flags c q at = none at

  character-counts : (b : Bool) (flags : Flags) (piece : Piece) (c : ℕ) (q : Place) → IsAt g ns q
      → CountsToken (One (if b then atom flags piece (atoms.HexByte c) else literal flags c)) q
  character-counts true flags piece c q at = atom-counts flags piece (atoms.HexByte c) q at
  character-counts false flags piece c q at = literal-counts flags c q at

  escaped_atom-counts : (flags : Flags) (piece : Piece) (e : Escaped) (q : Place) → IsAt g ns q → CountsToken (One (escaped_atom flags piece e)) q
  escaped_atom-counts flags piece (escapes.Character c) q at = character-counts c.is_hex_byte flags piece c.character q at
  escaped_atom-counts flags piece (escapes.Assertion kind) q at = atom-counts flags piece (atoms.Assertion kind) q at
  escaped_atom-counts flags piece (escapes.Perl kind negated) q at = atom-counts flags piece (atoms.Perl kind negated) q at
  escaped_atom-counts flags piece (escapes.Property name negated) q at = atom-counts flags piece (atoms.Property name negated) q at

  module _ (config : Config) where
    escaped-counts : (flags : Flags) (p : Place) → IsAt g ns p → Gives CountsToken (escaped config flags p)
    unfolding escaped
    escaped-counts flags p at = bind _ (escape-keeps (IsAt g ns) _ (groups-carry g ns) (octal_of config) p at)
        (λ e q here. reads (escaped_atom-counts flags _ e q here.1))

    bracketed-counts : (flags : Flags) (p : Place) → IsAt g ns p → Gives CountsToken (bracketed config flags p)
    unfolding bracketed
    bracketed-counts flags p at = bind _ (class-keeps (IsAt g ns) _ (groups-carry g ns) (octal_of config) flags.ignore_whitespace p at)
        (λ a q here. reads (atom-counts flags _ a q here.1))

    token_of-counts : (c : ℕ) (flags : Flags) (p : Place) → IsAt g ns p → Gives CountsToken (token_of config c flags p)
    unfolding token_of
    token_of-counts c flags p at =
        test (c ∈ "|") (λ _. reads (none at)) (λ _.
        test (c ∈ ")") (λ _. reads (none at)) (λ _.
        test (c ∈ "(") (λ _. opens-counts flags p at) (λ _.
        test (c ∈ "[") (λ _. bracketed-counts flags p at) (λ _.
        test (c ∈ "\\") (λ _. escaped-counts flags p at) (λ _.
        test (c ∈ ".") (λ _. reads (atom-counts flags _ _ (past p) at)) (λ _.
        test (c ∈ "^") (λ _. reads (atom-counts flags _ _ (past p) at)) (λ _.
        test (c ∈ "$") (λ _. reads (atom-counts flags _ _ (past p) at)) (λ _. reads (literal-counts flags c (past p) at)))))))))

    stray_operator-counts : (p : Place) → Gives CountsToken (stray_operator p)
    stray_operator-counts p = test (begins "{," p) (λ _. refused) (λ _. refused)

    pub token-counts : (flags : Flags) (p : Place) → IsAt g ns p → Gives CountsToken (token config flags p)
    unfolding token
    token-counts flags p at =
        test (at_end p) (λ _. reads (none at)) (λ _.
        test (is_operator p) (λ _. stray_operator-counts p) (λ _. token_of-counts (first p) flags p at))
