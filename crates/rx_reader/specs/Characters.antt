-- The characters that a syntax names for themselves, and what is so of each.
use Rattle.std.specs.Prelude.{ℕ}
use Rattle.std.specs.List.{All}
use Rattle.rx_reader.specs.declared.atom.Atom.{Atom}
use Rattle.rx_reader.specs.declared.atom.Atom.TheVariants.{HexByte, Dot, Assertion, Perl, Property, Bracketed}
use Rattle.rx_reader.specs.declared.class_item.ClassItem.{ClassItem}
use Rattle.rx_reader.specs.declared.class_item.ClassItem.TheVariants as items
use Rattle.rx_reader.specs.Syntax.{Syntax, Syntaxes, literal, atom, repeated, group, cat, alt, nil, cons}

-- of both ends of a range; a set has no characters of its own
abbrev pub AllInItem : (ℕ → Type 0) → ClassItem → Type 0
AllInItem S (items.Range low high) = S low.character × S high.character
AllInItem S (items.Perl kind negated) = Unit {0}
AllInItem S (items.Posix kind negated) = Unit {0}
AllInItem S (items.Property negated piece name) = Unit {0}

abbrev pub AllInAtom : (ℕ → Type 0) → Atom → Type 0
AllInAtom S (HexByte c) = S c
AllInAtom S Dot = Unit {0}
AllInAtom S (Assertion kind) = Unit {0}
AllInAtom S (Perl kind negated) = Unit {0}
AllInAtom S (Property name negated) = Unit {0}
AllInAtom S (Bracketed negated class) = All (AllInItem S) class

-- of each character that stands in
unfoldable mutual
  -- the syntax
  pub AllIn : (ℕ → Type 0) → Syntax → Type 0
  AllIn S (literal flags c) = S c
  AllIn S (atom flags piece a) = AllInAtom S a
  AllIn S (repeated min max greedy body) = AllIn S body
  AllIn S (group kind body) = AllIn S body
  AllIn S (cat items) = AllInEach S items
  AllIn S (alt branches) = AllInEach S branches

  -- each of the list
  pub AllInEach : (ℕ → Type 0) → Syntaxes → Type 0
  AllInEach S nil = Unit {0}
  AllInEach S (cons s ss) = AllIn S s × AllInEach S ss
