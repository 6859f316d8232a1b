-- Rows, as they are made one after another.
use Rattle.std.specs.Prelude.{◌≡◌, ◌↔◌, ℕ, ◌+◌, ◌*◌, ◌<◌, ◌≤◌, ◌==◌, Bool, true, false, List, [], ◌∷◌, length, reverse, Some, IsTrue, if◌then◌else◌, slice_get, slice_index, slice_index_or}
use Rattle.rx_search.specs.ByteClasses.{class_count}
use Rattle.rx_onepass_table.specs.Entry.{IsOutdone, IsClear}
use Rattle.rx_onepass_table.specs.Rows.{IsStep, IsFinal}
use Rattle.rx_onepass_table.specs.Words.{Step, Final, no_match, dead}
use Rattle.rx_onepass_build.specs.Entries.{Stays}
use Rattle.rx_onepass_build.specs.Filling.{IsRowBy, IsToldBy, step_at}
use Rattle.rx_onepass_build.specs.Told.{IsWay}
use Rattle.rx_onepass_build.specs.Tree.{IsSearched, AreMarked}
use Rattle.rx_onepass_build.specs.declared.closure.Closure.{Closure}
use Rattle.rx_onepass_build.specs.declared.closure.Reader.{Reader}
use Rattle.rx_onepass_build.specs.declared.entries.Entries.{Entries}
use Rattle.rx_onepass_build.specs.declared.job.Job.{Job}
use Rattle.rx_onepass_build.specs.declared.stop.Stop.{Stop}
use Rattle.rx_onepass_build.specs.declared.stop.Stop.TheVariants.{Match}

-- entries may be more, and the layout is the same
pub record AreOf (old new : Entries) : Type 0 where
  pub stays : Stays old.items.items new.items.items
  pub layout : new.layout ≡ old.layout
  pub states : length new.numbers.items ≡ length old.numbers.items

-- how many states are not marked by the number of this row
unfoldable pub unmarked : (row : ℕ) → (marks : List ℕ) → ℕ
unmarked row [] = 0
unmarked row (mark ∷ marks) = (if mark == row then 0 else 1) + unmarked row marks

-- The state that reads was come to by this walk, to which one that accepts is preferred or not.
pub record IsReaderOn (j : Job) (r : Reader) (way : List ℕ) : Type 0 where
  pub is_way : IsWay j.nfa.now r.entry way r.frame
  pub wins : IsTrue r.wins ↔ IsOutdone j.nfa.now r.entry way

-- The step stands in the cell now, or another one stood there.
pub record IsPut (old step new : Step) (is_put : Bool) : Type 0 where
  pub put : is_put ≡ true → new ≡ step
  pub kept : is_put ≡ true → (old.target ≡ dead → ⊥) → old ≡ step
  pub other : is_put ≡ false → (old.target ≡ dead → ⊥) × (old ≡ step → ⊥)

-- a match was told before, and this one is the second
pub record IsSecond (f : Final) (second : ℕ) (stop : Stop) : Type 0 where
  pub first : ℕ
  pub told : f.pattern ≡ Some first
  pub is : stop ≡ Match first second

-- What the search keeps: the walks that were looked at, and those that are still to be.
pub record IsWalking (j : Job) (entries : List ℕ) (c : Closure) : Type 0 where
  pub done : List (List ℕ)
  pub ways : List (List ℕ)
  pub searched : IsSearched j.nfa.now c.entry done ways (reverse c.frames.items)
  pub marked : AreMarked j.nfa.now c.entry done c.row c.marks.items
  pub cells : IsRowBy j entries c.entry done c.cells.items
  pub told : IsToldBy j.nfa.now c.entry done c.told

-- The row of the entry: a cell for each class, and one for a match, and nothing is ambiguous.
pub record IsFilled (j : Job) (entries : List ℕ) (entry : ℕ) (cells : List Step) (told : Final) : Type 0 where
  pub width : length cells ≡ class_count j.classes.now
  pub steps : (byte : ℕ) → byte < 256 → IsStep j.nfa.now entries entry byte (step_at cells (slice_index j.classes.now byte))
  pub final : IsFinal j.nfa.now entry told
  pub clear : IsClear j.nfa.now entry

-- the same of a row among others
pub record IsRowAt (j : Job) (entries : List ℕ) (entry k : ℕ) (steps : List Step) (finals : List Final) : Type 0 where
  pub steps_are : (byte : ℕ) → byte < 256
      → IsStep j.nfa.now entries entry byte (step_at steps (k * class_count j.classes.now + slice_index j.classes.now byte))
  pub final : IsFinal j.nfa.now entry (slice_index_or finals k no_match)
  pub clear : IsClear j.nfa.now entry

-- The rows of the first entries, one after another.
pub record AreFilled (j : Job) (entries : List ℕ) (steps : List Step) (finals : List Final) : Type 0 where
  pub count : length finals ≤ length entries
  pub len : length steps ≡ length finals * class_count j.classes.now
  pub rows : (k entry : ℕ) → k < length finals → slice_get entries k ≡ Some entry → IsRowAt j entries entry k steps finals
