-- The order of the rows in the end.
use Rattle.std.specs.Prelude.{◌≡◌, ℕ, suc, ◌+◌, ◌-◌, ◌*◌, ◌<◌, ◌≤◌, ◌==◌, true, false, List, length, is_some, if◌then◌else◌, slice_index, slice_index_or}
use Rattle.rx_onepass_table.specs.Words.{Step, step_of, Final, final_of, no_match}
use Rattle.rx_onepass_build.specs.Filling.{no_step, step_at}

-- The numbers of n rows, each by the other: each list tells where the other has a number.
pub record AreInverse (n : ℕ) (before after : List ℕ) : Type 0 where
  pub before_len : length before ≡ n
  pub after_len : length after ≡ n
  pub below : (k : ℕ) → k < n → slice_index before k < n
  pub above : (r : ℕ) → r < n → slice_index after r < n
  pub forth : (k : ℕ) → k < n → slice_index after (slice_index before k) ≡ k
  pub back : (r : ℕ) → r < n → slice_index before (slice_index after r) ≡ r

-- what the row of this number tells of a match; that of the dead state, number 0, tells none
abbrev pub final_before : List Final → (row : ℕ) → Final
final_before finals row = if row == 0 then no_match else slice_index_or finals (row - 1) no_match

-- where a class of bytes leads from the row of this number
abbrev pub step_before : List Step → (classes row class : ℕ) → Step
step_before steps classes row class = if row == 0 then no_step else step_at steps ((row - 1) * classes + class)

-- the step, with its target by the number that it has in the end
abbrev pub settled_step : (after : List ℕ) → Step → Step
settled_step after s = record { target = slice_index after s.target; wins = s.wins; slots = s.slots; looks = s.looks }

-- The row of the dead state comes first, and those that tell a match come last.
pub record IsOrder (finals : List Final) (before after : List ℕ) (least_match : ℕ) : Type 0 where
  pub inverse : AreInverse (suc (length finals)) before after
  pub first : slice_index before 0 ≡ 0
  pub some : 0 < least_match
  pub within : least_match ≤ suc (length finals)
  pub plain : (k : ℕ) → k < least_match → is_some (final_before finals (slice_index before k)).pattern ≡ false
  pub last : (k : ℕ) → least_match ≤ k → k < suc (length finals) → is_some (final_before finals (slice_index before k)).pattern ≡ true

-- the same while the rows from `high` on are known, and those below `low`
pub record IsSorting (finals : List Final) (before after : List ℕ) (low high : ℕ) : Type 0 where
  pub inverse : AreInverse (suc (length finals)) before after
  pub first : slice_index before 0 ≡ 0
  pub some : 0 < low
  pub between : low ≤ high
  pub within : high ≤ suc (length finals)
  pub plain : (k : ℕ) → k < low → is_some (final_before finals (slice_index before k)).pattern ≡ false
  pub last : (k : ℕ) → high ≤ k → k < suc (length finals) → is_some (final_before finals (slice_index before k)).pattern ≡ true

-- The cells of the row that had this number, with the targets by their numbers in the end.
pub record AreCellsOf (steps : List Step) (finals : List Final) (after : List ℕ) (classes row : ℕ) (cells : List ℕ) (from : ℕ) : Type 0 where
  pub steps_are : (class : ℕ) → class < classes → step_of (slice_index cells (from + class)) ≡ settled_step after (step_before steps classes row class)
  pub final : final_of (slice_index cells (from + classes)) ≡ final_before finals row

-- each step of n rows leads to one of them, or to that of the dead state
abbrev pub LeadInside : List Step → (classes n : ℕ) → Type 0
LeadInside steps classes n = (k class : ℕ) → k < n → class < classes → (step_at steps (k * classes + class)).target < suc n
