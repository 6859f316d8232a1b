-- Slots: numbers of the first bytes of literals.
use Rattle.std.specs.Prelude.{◌≡◌, ◌≢◌, ℕ, ◌+◌, ◌*◌, ◌%◌, ◌<◌, ◌≤◌, Bool, true, false, nat_eq, nat_le, List, [], ◌∷◌, length, take, slice_index, slice_index_or}
use Rattle.std.specs.List.{starts_with}
use Rattle.rx_literal.specs.Literals.{Literal, bytes_of}

-- a number of the bytes, after a number of those before them
abbrev pub slot_of : ℕ → List ℕ → ℕ
slot_of n [] = n
slot_of n (b ∷ bs) = slot_of ((n * 31 + b) % 4096) bs

-- that of the first bytes of a literal, so many
abbrev pub slot : (count : ℕ) → Literal → ℕ
slot count l = slot_of 0 (take count (bytes_of l))

-- the literal has so many bytes
abbrev pub has_bytes : (count : ℕ) → Literal → Bool
has_bytes count l = nat_le count (length (bytes_of l))

-- a slot that stands twice counts two at least
unfoldable pub AreCounted : (slots counts : List ℕ) → Type 0
AreCounted slots counts = (i j : ℕ) → i < j → j < length slots → slice_index slots i ≡ slice_index slots j → 2 ≤ slice_index counts (slice_index slots i)

-- neither of the literals begins with the other
abbrev pub AreApart : Literal → Literal → Type 0
AreApart l m = (starts_with nat_eq (bytes_of l) (bytes_of m) ≡ false) × (starts_with nat_eq (bytes_of m) (bytes_of l) ≡ false)

-- there is a mark for each literal, and one that is marked is apart from each of the others
pub record AreAlone (ls : List Literal) (marks : List Bool) : Type 0 where
  pub long : length marks ≡ length ls
  pub apart : (i j : ℕ) (l m : Literal) → i < length ls → j < length ls → i ≢ j → l ≡ slice_index_or ls i l → m ≡ slice_index_or ls j m
      → slice_index_or marks i false ≡ true → AreApart l m
