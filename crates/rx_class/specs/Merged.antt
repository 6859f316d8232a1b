-- How ranges in order of their first members become fewest ranges.
use Rattle.std.specs.Prelude.{ℕ, max, nat_lt, nat_le, List, [], ◌∷◌, if◌then◌else◌}

-- a range that begins no earlier than the last one, after it or joined with it
abbrev pub extend : (next : ℕ → ℕ) → List (ℕ × ℕ) → (low high : ℕ) → List (ℕ × ℕ)
extend next [] low high = (low, high) ∷ []
extend next (r ∷ []) low high = if nat_lt (next r.1) low then r ∷ (low, high) ∷ [] else (r.0, max r.1 high) ∷ []
extend next (r ∷ s ∷ rs) low high = r ∷ extend next (s ∷ rs) low high

-- the same; where its ends are out of order the range has no members
abbrev pub add : (next : ℕ → ℕ) → List (ℕ × ℕ) → (low high : ℕ) → List (ℕ × ℕ)
add next rs low high = if nat_le low high then extend next rs low high else rs

abbrev pub add_all : (next : ℕ → ℕ) → List (ℕ × ℕ) → List (ℕ × ℕ) → List (ℕ × ℕ)
add_all next rs [] = rs
add_all next rs (q ∷ qs) = add_all next (add next rs q.0 q.1) qs
