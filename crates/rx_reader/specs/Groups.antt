-- The capturing groups of a syntax.
use Rattle.std.specs.Prelude.{ℕ, ◌≡◌, ◌+◌, List, [], ◌∷◌, ◌++◌, Option, Some, None, ◌⊎◌}
use Rattle.std.specs.Int.NonZero.{non_zero_usize_get}
use Rattle.std.specs.declared.num.NonZeroUsize.{NonZeroUsize}
use Rattle.std.proofs.Math.Nat.{le-add_left}
use Rattle.rx_reader.specs.declared.group_kind.GroupKind.{GroupKind}
use Rattle.rx_reader.specs.declared.group_kind.GroupKind.TheVariants.{NonCapturing, CaptureIndex, CaptureName}
use Rattle.rx_reader.specs.Syntax.{Syntax, Syntaxes, literal, atom, repeated, group, cat, alt, nil, cons}

-- the number of the next capturing group, where so many were opened before
abbrev pub number_after : (groups : ℕ) → NonZeroUsize
number_after groups = record { value = groups + 1; ok = le-add_left 1 groups }

-- a group of this kind captures under this number, with this name or without one
abbrev pub Captures : (number : ℕ) (name : Option (List ℕ)) → GroupKind → Type 0
Captures g n NonCapturing = ⊥
Captures g n (CaptureIndex number) = (g ≡ non_zero_usize_get number) × (n ≡ None)
Captures g n (CaptureName number name) = (g ≡ non_zero_usize_get number) × (n ≡ Some name)

-- a capturing group of this number stands, with this name or without one, in
unfoldable mutual
  -- the syntax
  pub IsGroup : (number : ℕ) (name : Option (List ℕ)) → Syntax → Type 0
  IsGroup g n (literal flags c) = ⊥
  IsGroup g n (atom flags piece a) = ⊥
  IsGroup g n (repeated min max greedy body) = IsGroup g n body
  IsGroup g n (group kind body) = Captures g n kind ⊎ IsGroup g n body
  IsGroup g n (cat items) = IsGroupAmong g n items
  IsGroup g n (alt branches) = IsGroupAmong g n branches

  -- one of the list
  pub IsGroupAmong : (number : ℕ) (name : Option (List ℕ)) → Syntaxes → Type 0
  IsGroupAmong g n nil = ⊥
  IsGroupAmong g n (cons s ss) = IsGroup g n s ⊎ IsGroupAmong g n ss

-- the number of a group of this kind, if it captures
abbrev pub own_number : GroupKind → List ℕ
own_number NonCapturing = []
own_number (CaptureIndex number) = non_zero_usize_get number ∷ []
own_number (CaptureName number name) = non_zero_usize_get number ∷ []

-- the numbers of the capturing groups, in the order of their opening parentheses, of
unfoldable mutual
  -- the syntax
  pub group_numbers : Syntax → List ℕ
  group_numbers (literal flags c) = []
  group_numbers (atom flags piece a) = []
  group_numbers (repeated min max greedy body) = group_numbers body
  group_numbers (group kind body) = own_number kind ++ group_numbers body
  group_numbers (cat items) = all_group_numbers items
  group_numbers (alt branches) = all_group_numbers branches

  -- all in the list
  pub all_group_numbers : Syntaxes → List ℕ
  all_group_numbers nil = []
  all_group_numbers (cons s ss) = group_numbers s ++ all_group_numbers ss
