-- The ranges of a class, each from its first member to its last.
use Rattle.std.specs.Prelude.{ℕ, ◌+◌, ◌<◌, ◌≤◌, min, max, nat_lt, nat_le, Bool, List, [], ◌∷◌, ◌++◌, if◌then◌else◌, ◌==◌, Option, Some, None}
use Rattle.std.specs.Char.{IsScalar}
use Rattle.std.specs.List.{All, list_all}

-- the scalar after this one
abbrev pub next_scalar : ℕ → ℕ
next_scalar c = if c == 0xD7FF then 0xE000 else c + 1

-- the byte after this one
abbrev pub next_byte : ℕ → ℕ
next_byte b = b + 1

-- a range more among fewest ranges
unfoldable pub insert : (next : ℕ → ℕ) → (low high : ℕ) → List (ℕ × ℕ) → List (ℕ × ℕ)
insert next low high [] = (low, high) ∷ []
insert next low high (r ∷ rs) =
    let before = (low, high) ∷ r ∷ rs in
    let after = r ∷ insert next low high rs in
    let joined = insert next (min low r.0) (max high r.1) rs in
    if nat_lt (next high) r.0 then before else if nat_lt (next r.1) low then after else joined

-- The fewest ranges with the members of these, in ascending order. A range whose ends are out of order has
-- no members.
unfoldable pub fewest : (next : ℕ → ℕ) → List (ℕ × ℕ) → List (ℕ × ℕ)
fewest next [] = []
fewest next (r ∷ rs) = let rest = fewest next rs in if nat_le r.0 r.1 then insert next r.0 r.1 rest else rest

-- the fewest ranges with the members of both
abbrev pub union : (next : ℕ → ℕ) → List (ℕ × ℕ) → List (ℕ × ℕ) → List (ℕ × ℕ)
union next xs ys = fewest next (xs ++ ys)

-- the ranges begin past n
abbrev pub BeginPast : ℕ → List (ℕ × ℕ) → Type 0
BeginPast n [] = Unit {0}
BeginPast n (r ∷ rs) = n < r.0

-- The ranges ascend, and no two touch, so that no fewer ranges have the same members.
abbrev pub AreFewest : (next : ℕ → ℕ) → List (ℕ × ℕ) → Type 0
AreFewest next [] = Unit {0}
AreFewest next (r ∷ rs) = (r.0 ≤ r.1) × BeginPast (next r.1) rs × AreFewest next rs

-- both ends of each range are scalars
abbrev pub HaveScalarEnds : List (ℕ × ℕ) → Type 0
HaveScalarEnds rs = All (λ (r : ℕ × ℕ). IsScalar r.0 × IsScalar r.1) rs

-- fewest ranges of scalars
abbrev pub AreScalarRanges : List (ℕ × ℕ) → Type 0
AreScalarRanges rs = AreFewest next_scalar rs × HaveScalarEnds rs

-- fewest ranges of bytes
abbrev pub AreByteRanges : List (ℕ × ℕ) → Type 0
AreByteRanges = AreFewest next_byte

-- the member of a class that has one
abbrev pub only_member : List (ℕ × ℕ) → Option ℕ
only_member [] = None
only_member (r ∷ []) = if r.0 == r.1 then Some r.0 else None
only_member (r ∷ s ∷ rs) = None

-- no range ends above 7F
abbrev pub is_ascii : List (ℕ × ℕ) → Bool
is_ascii rs = list_all (λ (r : ℕ × ℕ). nat_le r.1 0x7F) rs
