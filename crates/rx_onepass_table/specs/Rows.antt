-- The table of a one-pass DFA: a row for each entry, a cell for each class of bytes, and one for a match.
use Rattle.std.specs.Prelude.{◌≡◌, ◌↔◌, ℕ, suc, ◌+◌, ◌*◌, ◌^◌, ◌<◌, ◌≤◌, List, length, Some, None, Contains, IfSome, IsTrue, IsSome, slice_get, slice_index}
use Rattle.std.specs.Int.{bit_at}
use Rattle.rx_model.specs.Look.{Look, look_number}
use Rattle.rx_search.specs.ByteClasses.{AreClasses, class_count}
use Rattle.rx_nfa.specs.Nfa.{Nfa}
use Rattle.rx_onepass_table.specs.Entry.{Accepts, Reads, IsOutdone, IsClear, explicit_start}
use Rattle.rx_nfa.specs.Walks.{written_on, asked_on}
use Rattle.rx_onepass_table.specs.Words.{Step, step_of, Final, final_of, dead, few_looks, slot_limit}

-- A table, as a contract sees it.
pub record TableValue : Type 0 where
  -- the class of each byte
  pub classes : List ℕ
  -- how many cells a row has
  pub stride : ℕ
  pub cells : List ℕ
  -- how many rows there are
  pub rows : ℕ
  -- the first row that tells a match; those behind it do too
  pub least_match : ℕ

-- the cell of a row in a column
abbrev pub cell_at : TableValue → (row column : ℕ) → ℕ
cell_at t row column = slice_index t.cells (row * t.stride + column)

-- where a byte leads from a row, and what the row tells of a match
abbrev pub step_in : TableValue → (row byte : ℕ) → Step
step_in t row byte = step_of (cell_at t row (slice_index t.classes byte))

abbrev pub final_in : TableValue → (row : ℕ) → Final
final_in t row = final_of (cell_at t row (class_count t.classes))

-- Each cell is there, and each that a byte leads to. Rows that tell a match come last.
pub record IsWhole (t : TableValue) : Type 0 where
  pub classes : AreClasses t.classes
  pub len : length t.cells ≡ t.stride * t.rows
  pub wide : class_count t.classes < t.stride
  pub few : t.rows ≤ 2 ^ 21
  pub targets : (row column : ℕ) → row < t.rows → column < class_count t.classes → (step_of (cell_at t row column)).target < t.rows
  pub before : (row : ℕ) → row < t.least_match → row < t.rows → (final_in t row).pattern ≡ None
  pub last : (row : ℕ) → t.least_match ≤ row → row < t.rows → IsSome (final_in t row).pattern

-- The row of an entry: rows are in the order of the entries, behind that of the dead state.
pub record IsRowOf (entries : List ℕ) (row entry : ℕ) : Type 0 where
  pub before : ℕ
  pub row_is : row ≡ suc before
  pub there : slice_get entries before ≡ Some entry

-- The set of the explicit slots that are written on a walk: bit k stands for the k-th of them.
pub record AreSlots (nfa : Nfa) (set entry : ℕ) (way : List ℕ) : Type 0 where
  pub told : (k : ℕ) → bit_at set k ≡ 1 → Contains (written_on nfa.states entry way) (explicit_start nfa + k)
  pub all : (k : ℕ) → Contains (written_on nfa.states entry way) (explicit_start nfa + k) → (k < slot_limit) × (bit_at set k ≡ 1)

-- The set of the kinds of look-around that are asked for on a walk.
pub record AreLooks (nfa : Nfa) (set entry : ℕ) (way : List ℕ) : Type 0 where
  pub told : (kind : Look) → bit_at set (look_number kind) ≡ 1 → Contains (asked_on nfa.states entry way) kind
  pub all : (kind : Look) → Contains (asked_on nfa.states entry way) kind → (look_number kind < few_looks) × (bit_at set (look_number kind) ≡ 1)

-- A cell for a byte: a step from the entry, if it leads anywhere, and all steps on the byte are as it.
pub record IsStep (nfa : Nfa) (entries : List ℕ) (entry byte : ℕ) (s : Step) : Type 0 where
  pub there : (s.target ≡ dead → ⊥) → (way : List ℕ) × (next : ℕ) × Reads nfa entry byte way next
  pub row : (way : List ℕ) (next : ℕ) → Reads nfa entry byte way next → IsRowOf entries s.target next
  pub wins : (way : List ℕ) (next : ℕ) → Reads nfa entry byte way next → IsTrue s.wins ↔ IsOutdone nfa entry way
  pub slots : (way : List ℕ) (next : ℕ) → Reads nfa entry byte way next → AreSlots nfa s.slots entry way
  pub looks : (way : List ℕ) (next : ℕ) → Reads nfa entry byte way next → AreLooks nfa s.looks entry way

-- A cell for a match: an accept from the entry, if it tells a pattern, and all accepts are as it.
pub record IsFinal (nfa : Nfa) (entry : ℕ) (f : Final) : Type 0 where
  pub there : IfSome f.pattern (λ p. (way : List ℕ) × Accepts nfa entry p way)
  pub pattern : (p : ℕ) (way : List ℕ) → Accepts nfa entry p way → f.pattern ≡ Some p
  pub slots : (p : ℕ) (way : List ℕ) → Accepts nfa entry p way → AreSlots nfa f.slots entry way
  pub looks : (p : ℕ) (way : List ℕ) → Accepts nfa entry p way → AreLooks nfa f.looks entry way

-- The row of an entry: its cells are those of the bytes, and that of a match, and nothing is ambiguous.
pub record IsRow (nfa : Nfa) (entries : List ℕ) (t : TableValue) (row entry : ℕ) : Type 0 where
  pub inside : entry < length nfa.states
  pub steps : (byte : ℕ) → byte < 256 → IsStep nfa entries entry byte (step_in t row byte)
  pub final : IsFinal nfa entry (final_in t row)
  pub clear : IsClear nfa entry

-- the table of these entries: each row is that of its entry
abbrev pub IsTableOf : Nfa → List ℕ → TableValue → Type 0
IsTableOf nfa entries t = (row entry : ℕ) → IsRowOf entries row entry → IsRow nfa entries t row entry
