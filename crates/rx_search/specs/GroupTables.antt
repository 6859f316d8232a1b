-- How the groups of patterns lie in flat tables: the names of all explicit groups in a row, and for each pattern
-- where its own begin and end.
use Rattle.std.specs.Prelude.{ℕ, ◌+◌, ◌-◌, ◌≡◌, ◌≤◌, ◌<◌, List, [], ◌∷◌, Option, None, length, map, slice_range, String}
use Rattle.rx_search.specs.GroupInfo.{names_of, explicit_before, group_count, slot_count, groups_at}
use Rattle.rx_search.specs.Limits.{slot_limit}
use Rattle.rx_search.specs.declared.group_info.Explicit.{Explicit}

-- the groups of one pattern: the implicit one, and the explicit ones
abbrev pub groups_in : List (Option (List ℕ)) → Explicit → List (Option (List ℕ))
groups_in names row = None ∷ slice_range names row.start row.end

-- the groups of each pattern
abbrev pub table_groups : List (Option (List ℕ)) → List Explicit → List (List (Option (List ℕ)))
table_groups names rows = map (groups_in names) rows

-- the rows follow one another, from one number to another
abbrev pub AreInRow : ℕ → List Explicit → ℕ → Type 0
AreInRow from [] to = from ≡ to
AreInRow from (row ∷ rows) to = (row.start ≡ from) × (row.start ≤ row.end) × AreInRow row.end rows to

-- The tables hold these groups.
pub record AreOf {A : Type 0} (info : List (List (Option (List ℕ)))) (names : List (Option (String A))) (rows : List Explicit) : Type 0 where
  pub groups : table_groups (names_of names) rows ≡ info
  pub in_row : AreInRow 0 rows (length names)

-- This row is that of pattern p: as many explicit groups come before it, and it has as many.
pub record IsRowOf (info : List (List (Option (List ℕ)))) (p : ℕ) (row : Explicit) : Type 0 where
  pub there : p < length info
  pub ordered : row.start ≤ row.end
  pub before : row.start ≡ explicit_before p info
  pub count : length (groups_at info p) ≡ row.end - row.start + 1
  pub within : length info + row.end ≤ group_count info
  pub few : slot_count info ≤ slot_limit
