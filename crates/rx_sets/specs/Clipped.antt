-- The scalars in ranges of code points.
use Rattle.std.specs.Prelude.{ℕ, Bool, ◌&&◌, nat_le, nat_lt, List, [], ◌∷◌, ◌++◌, Option, Some, None, if◌then◌else◌}

abbrev pub is_surrogate : ℕ → Bool
is_surrogate c = nat_le 0xD800 c && nat_lt c 0xE000

-- the first scalar from c on, if there is one
abbrev pub first_scalar : ℕ → Option ℕ
first_scalar c = if is_surrogate c then Some 0xE000 else if nat_lt 0x10FFFF c then None else Some c

-- the last scalar up to c
abbrev pub last_scalar : ℕ → ℕ
last_scalar c = if is_surrogate c then 0xD7FF else if nat_lt 0x10FFFF c then 0x10FFFF else c

-- a range from a scalar on, if there is one
abbrev pub from_first : Option ℕ → (last : ℕ) → List (ℕ × ℕ)
from_first None last = []
from_first (Some first) last = (first, last) ∷ []

-- the range from the first scalar to the last one, whose ends are out of order where there are none between
abbrev pub clipped : (low high : ℕ) → List (ℕ × ℕ)
clipped low high = from_first (first_scalar low) (last_scalar high)

abbrev pub all_clipped : List (ℕ × ℕ) → List (ℕ × ℕ)
all_clipped [] = []
all_clipped (r ∷ rs) = clipped r.0 r.1 ++ all_clipped rs
