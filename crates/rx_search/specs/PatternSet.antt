-- Sets of patterns, as lists: whether each pattern that there is room for is in the set.
use Rattle.std.specs.Prelude.{◌≡◌, ℕ, ◌+◌, ◌<◌, Bool, true, false, List, [], ◌∷◌, slice_index_or, count_by, if◌then◌else◌}
use Rattle.rx_search.specs.Limits.{id_limit}

-- the pattern is in the set
abbrev pub has : (set : List Bool) (pattern : ℕ) → Bool
has set pattern = slice_index_or set pattern false

-- how many patterns are in the set
abbrev pub count_of : (set : List Bool) → ℕ
count_of set = count_by (λ is_there. is_there) set

-- the patterns that are in the set, in order, where the first of the list is pattern p
abbrev pub members_from : (p : ℕ) (set : List Bool) → List ℕ
members_from p [] = []
members_from p (is_there ∷ set) = if is_there then p ∷ members_from (p + 1) set else members_from (p + 1) set

-- the patterns that are in the set, in order
abbrev pub members : (set : List Bool) → List ℕ
members set = members_from 0 set

-- each pattern in the set has an identifier
pub record AreIdentifiers (set : List Bool) : Type 0 where
  pub below : (p : ℕ) → has set p ≡ true → p < id_limit
