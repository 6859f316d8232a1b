-- Complements of ranges, among the numbers up to a greatest one.
use Rattle.std.specs.Prelude.{ℕ, nat_lt, List, [], ◌∷◌, ◌++◌, if◌then◌else◌}

-- the numbers from `low` to the one before `end`
abbrev pub up_to : (previous : ℕ → ℕ) → (low end : ℕ) → List (ℕ × ℕ)
up_to previous low end = if nat_lt low end then (low, previous end) ∷ [] else []

-- the numbers from `low` to the greatest
abbrev pub from : (greatest low : ℕ) → List (ℕ × ℕ)
from greatest low = if nat_lt greatest low then [] else (low, greatest) ∷ []

-- the numbers from `low` to the greatest that fewest ranges don't hold
unfoldable pub outside : (next previous : ℕ → ℕ) → (greatest low : ℕ) → List (ℕ × ℕ) → List (ℕ × ℕ)
outside next previous greatest low [] = from greatest low
outside next previous greatest low (r ∷ rs) = up_to previous low r.0 ++ outside next previous greatest (next r.1) rs
