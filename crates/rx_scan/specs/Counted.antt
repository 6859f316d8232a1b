-- Rows, in numbers.
use Rattle.std.specs.Prelude.{◌≡◌, ℕ, ◌-◌, ◌<◌, ◌^◌, List, [], ◌∷◌, length, map, Option, Some, None, sum_by}
use Rattle.std.specs.List.{All}
use Rattle.rx_gen.specs.declared.totals.Counts.{Counts}
use Rattle.rx_scan.specs.Row.{RowValue}

-- how long a match is, by the slots of its row
abbrev pub slots_len : List (Option ℕ) → ℕ
slots_len [] = 0
slots_len (start ∷ []) = 0
slots_len (None ∷ end ∷ slots) = 0
slots_len (Some start ∷ None ∷ slots) = 0
slots_len (Some start ∷ Some end ∷ slots) = end - start

abbrev pub row_len : RowValue → ℕ
row_len row = slots_len row.slots

-- how long the matches of these rows are together
abbrev pub rows_len : List RowValue → ℕ
rows_len rows = sum_by row_len rows

-- how many they are, and how long
abbrev pub counts_of : List RowValue → Counts
counts_of rows = record { matches = length rows; covered = rows_len rows }

-- these are the numbers of the rows of some haystacks, where all of them fit
abbrev pub AreCounted : List (List RowValue) → List Counts → Type 0
AreCounted all counts = All (λ rows. rows_len rows < 2 ^ 64) all → counts ≡ map counts_of all
