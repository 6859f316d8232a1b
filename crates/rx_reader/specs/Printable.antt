-- Which syntaxes have a text from which they are read again, and when two of them are the same but for places.
use Rattle.std.specs.Prelude.{ℕ, ◌≡◌, ◌≤◌, true, false, nat_eq, length, map, codes, ◌<◌, IfSome, Option}
use Rattle.std.specs.List.{AllByRecursion, list_all, starts_with}
use Rattle.rx_reader.specs.declared.flags.Flags.{Flags}
use Rattle.rx_reader.specs.declared.piece.Piece.{Piece}
use Rattle.rx_reader.specs.declared.atom.Atom.{Atom}
use Rattle.rx_reader.specs.declared.atom.Atom.TheVariants.{HexByte, Dot, Assertion, Perl, Property, Bracketed}
use Rattle.rx_reader.specs.declared.class_item.ClassItem.{ClassItem}
use Rattle.rx_reader.specs.declared.class_item.ClassItem.TheVariants as items
use Rattle.rx_reader.specs.declared.escape.NameIn.TheVariants.{Braces}
use Rattle.rx_reader.specs.declared.group_kind.GroupKind.{GroupKind}
use Rattle.rx_reader.specs.declared.group_kind.GroupKind.TheVariants.{NonCapturing, CaptureIndex, CaptureName}
use Rattle.rx_reader.specs.Counts.{greatest_count, AreInOrder}
use Rattle.rx_reader.specs.Escapes.{in_name}
use Rattle.rx_reader.specs.Groups.{number_after}
use Rattle.rx_reader.specs.Syntax.{Syntax, Syntaxes, literal, atom, repeated, group, cat, alt, nil, cons}

-- The same but for places.

abbrev pub nowhere : Piece
nowhere = record { start = 0; end = 0 }

abbrev pub bare_item : ClassItem → ClassItem
bare_item (items.Range low high) = items.Range low high
bare_item (items.Perl kind negated) = items.Perl kind negated
bare_item (items.Posix kind negated) = items.Posix kind negated
bare_item (items.Property negated piece name) = items.Property negated nowhere name

abbrev pub bare_atom : Atom → Atom
bare_atom (HexByte c) = HexByte c
bare_atom Dot = Dot
bare_atom (Assertion kind) = Assertion kind
bare_atom (Perl kind negated) = Perl kind negated
bare_atom (Property name negated) = Property name negated
bare_atom (Bracketed negated class) = Bracketed negated (map bare_item class)

abbrev pub bare_kind : GroupKind → GroupKind
bare_kind NonCapturing = NonCapturing
bare_kind (CaptureIndex number) = CaptureIndex (number_after 0)
bare_kind (CaptureName number name) = CaptureName (number_after 0) name

-- without pieces and the numbers of groups, which follow from the order of their parentheses
unfoldable mutual
  pub bare : Syntax → Syntax
  bare (literal flags c) = literal flags c
  bare (atom flags piece a) = atom flags nowhere (bare_atom a)
  bare (repeated min max greedy body) = repeated min max greedy (bare body)
  bare (group kind body) = group (bare_kind kind) (bare body)
  bare (cat items) = cat (each_bare items)
  bare (alt branches) = alt (each_bare branches)

  pub each_bare : Syntaxes → Syntaxes
  each_bare nil = nil
  each_bare (cons s ss) = cons (bare s) (each_bare ss)

-- Which have such a text.

abbrev pub HasItemText : ClassItem → Type 0
HasItemText (items.Range low high) = (low.is_hex_byte ≡ false) × (high.is_hex_byte ≡ false) × (low.character ≤ high.character)
HasItemText (items.Perl kind negated) = Unit {0}
HasItemText (items.Posix kind negated) = ⊥
HasItemText (items.Property negated piece name) = ⊥

-- No byte by its number stands there. The name of a set has no closing brace, and no `^` in front, which would complement it.
abbrev pub HasAtomText : Atom → Type 0
HasAtomText (HexByte c) = ⊥
HasAtomText Dot = Unit {0}
HasAtomText (Assertion kind) = Unit {0}
HasAtomText (Perl kind negated) = Unit {0}
HasAtomText (Property name negated) = (list_all (in_name Braces) name ≡ true) × (starts_with nat_eq name (codes "^") ≡ false)
HasAtomText (Bracketed negated class) = (0 < length class) × AllByRecursion HasItemText class

-- counts that an operator can say
abbrev pub HasCountsText : ℕ → Option ℕ → Type 0
HasCountsText min max = (min ≤ greatest_count) × AreInOrder min max × IfSome max (λ m. m ≤ greatest_count)

abbrev pub IsUnnamed : GroupKind → Type 0
IsUnnamed NonCapturing = Unit {0}
IsUnnamed (CaptureIndex number) = Unit {0}
IsUnnamed (CaptureName number name) = ⊥

-- The shape that reading gives, where each atom has these flags and no group a name: a pattern is a row of branches, a branch
-- a row of items, and an item an atom, a repetition of an item, or a group of a pattern.
unfoldable mutual
  pub IsItem : Flags → Syntax → Type 0
  IsItem flags (literal own c) = own ≡ flags
  IsItem flags (atom own piece a) = (own ≡ flags) × HasAtomText a
  IsItem flags (repeated min max greedy body) = HasCountsText min max × IsItem flags body
  IsItem flags (group kind body) = IsUnnamed kind × IsPattern flags body
  IsItem flags (cat items) = ⊥
  IsItem flags (alt branches) = ⊥

  pub IsBranch : Flags → Syntax → Type 0
  IsBranch flags (literal own c) = ⊥
  IsBranch flags (atom own piece a) = ⊥
  IsBranch flags (repeated min max greedy body) = ⊥
  IsBranch flags (group kind body) = ⊥
  IsBranch flags (cat items) = AreItems flags items
  IsBranch flags (alt branches) = ⊥

  pub IsPattern : Flags → Syntax → Type 0
  IsPattern flags (literal own c) = ⊥
  IsPattern flags (atom own piece a) = ⊥
  IsPattern flags (repeated min max greedy body) = ⊥
  IsPattern flags (group kind body) = ⊥
  IsPattern flags (cat items) = ⊥
  IsPattern flags (alt nil) = ⊥
  IsPattern flags (alt (cons s ss)) = IsBranch flags s × AreBranches flags ss

  pub AreItems : Flags → Syntaxes → Type 0
  AreItems flags nil = Unit {0}
  AreItems flags (cons s ss) = IsItem flags s × AreItems flags ss

  pub AreBranches : Flags → Syntaxes → Type 0
  AreBranches flags nil = Unit {0}
  AreBranches flags (cons s ss) = IsBranch flags s × AreBranches flags ss
