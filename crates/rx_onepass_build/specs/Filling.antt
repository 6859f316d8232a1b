-- A row in the making: its cells are those of the walks that were looked at.
use Rattle.std.specs.Prelude.{◌≡◌, ◌↔◌, ℕ, ◌^◌, ◌<◌, ◌≤◌, false, List, length, Some, IfSome, IsTrue, Contains, slice_index, slice_index_or}
use Rattle.rx_search.specs.ByteClasses.{AreClasses, class_count, AreRepresentatives}
use Rattle.rx_nfa.specs.Automaton.{state_at}
use Rattle.rx_nfa.specs.ByteClasses.{AreOfOneClass}
use Rattle.rx_nfa.specs.Nfa.{Nfa, IsInRange}
use Rattle.rx_nfa.specs.Ordered.{target}
use Rattle.rx_onepass_table.specs.Entry.{Accepts, Reads, IsOutdone, IsEntry, explicit_start}
use Rattle.rx_onepass_table.specs.Rows.{AreSlots, AreLooks, IsRowOf}
use Rattle.rx_onepass_table.specs.Words.{Step, Final, dead}
use Rattle.rx_onepass_build.specs.Build.{IsAdmitted}
use Rattle.rx_onepass_build.specs.Entries.{AreEntries}
use Rattle.rx_onepass_build.specs.declared.job.Job.{Job}

-- What a table is made of: bytes of one class are alike, and one of each is at hand.
pub record IsJob (j : Job) : Type 0 where
  pub in_range : IsInRange j.nfa.now
  pub admitted : IsAdmitted j.nfa.now
  pub classes : AreClasses j.classes.now
  pub bytes : AreRepresentatives j.classes.now j.bytes.now
  pub alike : (q b c : ℕ) → AreOfOneClass j.classes.now b c → target (state_at j.nfa.now.states q) b ≡ target (state_at j.nfa.now.states q) c
  pub first : j.explicit_start ≡ explicit_start j.nfa.now

-- no step
abbrev pub no_step : Step
no_step = record { target = 0; wins = false; slots = 0; looks = 0 }

-- the cell of a class
abbrev pub step_at : List Step → (class : ℕ) → Step
step_at cells class = slice_index_or cells class no_step

-- The step tells what is told on a walk to a state that goes on to the next one.
pub record IsStepOn (nfa : Nfa) (entries : List ℕ) (entry : ℕ) (s : Step) (way : List ℕ) (next : ℕ) : Type 0 where
  pub row : IsRowOf entries s.target next
  pub wins : IsTrue s.wins ↔ IsOutdone nfa entry way
  pub slots : AreSlots nfa s.slots entry way
  pub looks : AreLooks nfa s.looks entry way
  pub small_slots : s.slots < 2 ^ 32
  pub small_looks : s.looks < 2 ^ 10

-- The cell of a class: a step of one of the walks, if it leads anywhere, and the steps of all of them are as it.
pub record IsCell (nfa : Nfa) (classes entries : List ℕ) (entry : ℕ) (done : List (List ℕ)) (class : ℕ) (s : Step) : Type 0 where
  pub there : (byte : ℕ) → byte < 256 → slice_index classes byte ≡ class → (s.target ≡ dead → ⊥)
      → (way : List ℕ) × (next : ℕ) × Contains done way × Reads nfa entry byte way next
  pub steps : (byte : ℕ) (way : List ℕ) (next : ℕ) → byte < 256 → slice_index classes byte ≡ class → Contains done way → Reads nfa entry byte way next
      → IsStepOn nfa entries entry s way next

-- What is told of a match is an accept of one of the walks, if there is one, and no other walk accepts.
pub record IsToldBy (nfa : Nfa) (entry : ℕ) (done : List (List ℕ)) (f : Final) : Type 0 where
  pub there : IfSome f.pattern (λ p. (way : List ℕ) × Contains done way × Accepts nfa entry p way)
  pub pattern : (p : ℕ) (way : List ℕ) → Contains done way → Accepts nfa entry p way → f.pattern ≡ Some p
  pub slots : (p : ℕ) (way : List ℕ) → Contains done way → Accepts nfa entry p way → AreSlots nfa f.slots entry way
  pub looks : (p : ℕ) (way : List ℕ) → Contains done way → Accepts nfa entry p way → AreLooks nfa f.looks entry way

-- A row in the making, where the cells below this class are those of one walk more.
pub record IsFilling (j : Job) (entries : List ℕ) (entry : ℕ) (done more : List (List ℕ)) (class : ℕ) (cells : List Step) : Type 0 where
  pub is_entry : IsEntry j.nfa.now j.each entry
  pub are : AreEntries j.nfa.now j.each entries
  pub width : length cells ≡ class_count j.classes.now
  pub below : (c : ℕ) → c < class_count j.classes.now → c < class → IsCell j.nfa.now j.classes.now entries entry more c (step_at cells c)
  pub rest : (c : ℕ) → c < class_count j.classes.now → class ≤ c → IsCell j.nfa.now j.classes.now entries entry done c (step_at cells c)

-- the same of all cells
abbrev pub IsRowBy : Job → (entries : List ℕ) → (entry : ℕ) → (done : List (List ℕ)) → List Step → Type 0
IsRowBy j entries entry done cells = IsFilling j entries entry done done 0 cells
