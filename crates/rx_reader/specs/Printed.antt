-- A text of a syntax, from which that syntax is read again.
use Rattle.std.specs.Prelude.{ℕ, ◌==◌, ◌&&◌, Bool, true, false, List, [], ◌++◌, flat_map, codes, decimal, Option, Some, None, if◌then◌else◌}
use Rattle.std.specs.Bool.{beq}
use Rattle.rx_sets.specs.declared.perl.ClassPerlKind.{ClassPerlKind}
use Rattle.rx_sets.specs.declared.perl.ClassPerlKind.TheVariants.{Digit, Space, Word}
use Rattle.rx_reader.specs.declared.assertion.AssertionKind.{AssertionKind}
use Rattle.rx_reader.specs.declared.assertion.AssertionKind.TheVariants.{StartLine, EndLine, StartText, EndText, WordBoundary, NotWordBoundary, WordBoundaryStart, WordBoundaryEnd, WordBoundaryStartHalf, WordBoundaryEndHalf}
use Rattle.rx_reader.specs.declared.atom.Atom.{Atom}
use Rattle.rx_reader.specs.declared.atom.Atom.TheVariants.{HexByte, Dot, Assertion, Perl, Property, Bracketed}
use Rattle.rx_reader.specs.declared.class_item.ClassItem.{ClassItem}
use Rattle.rx_reader.specs.declared.class_item.ClassItem.TheVariants as items
use Rattle.rx_reader.specs.declared.group_kind.GroupKind.{GroupKind}
use Rattle.rx_reader.specs.declared.group_kind.GroupKind.TheVariants.{NonCapturing, CaptureIndex, CaptureName}
use Rattle.rx_reader.specs.Plain.{escaped_one}
use Rattle.rx_reader.specs.Syntax.{Syntax, Syntaxes, literal, atom, repeated, group, cat, alt, nil, cons}

-- Texts of atoms.

abbrev pub perl_text : ClassPerlKind → (negated : Bool) → List ℕ
perl_text Digit false = codes "\\d"
perl_text Digit true = codes "\\D"
perl_text Space false = codes "\\s"
perl_text Space true = codes "\\S"
perl_text Word false = codes "\\w"
perl_text Word true = codes "\\W"

abbrev pub assertion_text : AssertionKind → List ℕ
assertion_text StartLine = codes "^"
assertion_text EndLine = codes "$"
assertion_text StartText = codes "\\A"
assertion_text EndText = codes "\\z"
assertion_text WordBoundary = codes "\\b"
assertion_text NotWordBoundary = codes "\\B"
assertion_text WordBoundaryStart = codes "\\b{start}"
assertion_text WordBoundaryEnd = codes "\\b{end}"
assertion_text WordBoundaryStartHalf = codes "\\b{start-half}"
assertion_text WordBoundaryEndHalf = codes "\\b{end-half}"

-- one character, or the first and the last one of a range with a hyphen between them
abbrev pub range_text : (low high : ℕ) → List ℕ
range_text low high = escaped_one low ++ (if low == high then [] else codes "-" ++ escaped_one high)

abbrev pub class_item_text : ClassItem → List ℕ
class_item_text (items.Range low high) = range_text low.character high.character
class_item_text (items.Perl kind negated) = perl_text kind negated
class_item_text (items.Posix kind negated) = []
class_item_text (items.Property negated piece name) = []

abbrev pub class_text : (negated : Bool) → List ClassItem → List ℕ
class_text negated class = (if negated then codes "[^" else codes "[") ++ (flat_map class_item_text class ++ codes "]")

abbrev pub atom_text : Atom → List ℕ
atom_text (HexByte c) = []
atom_text Dot = codes "."
atom_text (Assertion kind) = assertion_text kind
atom_text (Perl kind negated) = perl_text kind negated
atom_text (Property name negated) = (if negated then codes "\\P{" else codes "\\p{") ++ (name ++ codes "}")
atom_text (Bracketed negated class) = class_text negated class

-- Texts of repetitions and groups.

abbrev pub up_to : (min : ℕ) → (max : Option ℕ) → List ℕ
up_to min None = codes ","
up_to min (Some max) = if min == max then [] else codes "," ++ decimal max

-- `{n}`, `{n,}` or `{n,m}`
abbrev pub counts_text : ℕ → Option ℕ → List ℕ
counts_text min max = codes "{" ++ (decimal min ++ (up_to min max ++ codes "}"))

-- a sign where one stands for these counts, and else the counts
abbrev pub sign_text : ℕ → Option ℕ → List ℕ
sign_text min None = if min == 0 then codes "*" else if min == 1 then codes "+" else counts_text min None
sign_text min (Some max) = if min == 0 && max == 1 then codes "?" else counts_text min (Some max)

abbrev pub is_repeated : Syntax → Bool
is_repeated (repeated min max greedy body) = true
is_repeated (literal flags c) = false
is_repeated (atom flags piece a) = false
is_repeated (group kind body) = false
is_repeated (cat items) = false
is_repeated (alt branches) = false

-- An operator after this body. After another operator it is written with counts, since a `?` there would mean that one's
-- greed. The `?` at its end turns the greed round.
abbrev pub operator_text : (swaps : Bool) → (body : Syntax) → ℕ → Option ℕ → (greedy : Bool) → List ℕ
operator_text swaps body min max greedy =
    (if is_repeated body then counts_text min max else sign_text min max) ++ (if beq greedy swaps then codes "?" else [])

abbrev pub opening_text : GroupKind → List ℕ
opening_text NonCapturing = codes "(?:"
opening_text (CaptureIndex number) = codes "("
opening_text (CaptureName number name) = codes "(?P<" ++ (name ++ codes ">")

-- The whole text; `swaps` is whether the flag `U` is on.
abbrev mutual
  pub printed : (swaps : Bool) → Syntax → List ℕ
  printed swaps (literal flags c) = escaped_one c
  printed swaps (atom flags piece a) = atom_text a
  printed swaps (repeated min max greedy body) = printed swaps body ++ operator_text swaps body min max greedy
  printed swaps (group kind body) = opening_text kind ++ (printed swaps body ++ codes ")")
  printed swaps (cat items) = printed_row swaps items
  printed swaps (alt branches) = printed_branches swaps branches

  -- one after another
  pub printed_row : (swaps : Bool) → Syntaxes → List ℕ
  printed_row swaps nil = []
  printed_row swaps (cons s ss) = printed swaps s ++ printed_row swaps ss

  -- with a bar between each two
  pub printed_branches : (swaps : Bool) → Syntaxes → List ℕ
  printed_branches swaps nil = []
  printed_branches swaps (cons s nil) = printed swaps s
  printed_branches swaps (cons s (cons t ss)) = printed swaps s ++ (codes "|" ++ printed_branches swaps (cons t ss))
