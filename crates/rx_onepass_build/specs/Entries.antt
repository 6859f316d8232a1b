-- The entries that were met, each with its row, within the limits of a table.
use Rattle.std.specs.Prelude.{◌≡◌, ◌≢◌, ℕ, suc, ◌+◌, ◌*◌, ◌^◌, ◌<◌, ◌≤◌, ◌⊎◌, Bool, List, length, Some, IfSome, slice_get}
use Rattle.rx_nfa.specs.Nfa.{Nfa}
use Rattle.rx_onepass_table.specs.Entry.{IsEntry}
use Rattle.rx_onepass_build.specs.declared.entries.Layout.{Layout}
use Rattle.rx_onepass_build.specs.declared.entries.Entries.{Entries}
use Rattle.rx_onepass_build.specs.declared.build_error.BuildError.{BuildError}
use Rattle.rx_onepass_build.specs.declared.build_error.BuildError.TheVariants.{UnsupportedLook, TooManyPatterns, TooManyStates, ExceededSizeLimit, NotOnePass, Memory}

-- how many rows a table has at most, that of the dead state among them
abbrev pub state_limit : ℕ
state_limit = 2097152

-- the bytes that are accounted for a table of so many rows: 8 for each cell, and 4 for each start
abbrev pub size_of : Layout → (rows : ℕ) → ℕ
size_of layout rows = 8 * (rows * layout.stride) + 4 * layout.starts

-- a table of so many rows is not above the limit
abbrev pub IsWithin : Layout → (rows : ℕ) → Type 0
IsWithin layout rows = IfSome layout.limit (λ limit. size_of layout rows ≤ limit)

-- no two of them are alike
abbrev pub AreDistinct : List ℕ → Type 0
AreDistinct entries = (j k q : ℕ) → slice_get entries j ≡ Some q → slice_get entries k ≡ Some q → j ≡ k

-- each of these states of the NFA is an entry
abbrev pub AreEntries : Nfa → (each : Bool) → List ℕ → Type 0
AreEntries nfa each entries = (k q : ℕ) → slice_get entries k ≡ Some q → IsEntry nfa each q

-- so many entries are there
pub record HasEntries (nfa : Nfa) (each : Bool) (n : ℕ) : Type 0 where
  pub entries : List ℕ
  pub count : length entries ≡ n
  pub distinct : AreDistinct entries
  pub are : AreEntries nfa each entries

-- a table of this size is above the limit, and as many entries as it accounts are there
pub record IsAbove (nfa : Nfa) (each : Bool) (layout : Layout) (limit size : ℕ) : Type 0 where
  pub entries : ℕ
  pub has_entries : HasEntries nfa each entries
  pub size_is : size ≡ size_of layout (suc entries)
  pub above : limit < size

-- The entries that were met, in the order of their rows, and the number of each state's row: 0 where it has none.
pub record AreNumbered (entries numbers : List ℕ) : Type 0 where
  pub told : (k q : ℕ) → slice_get entries k ≡ Some q → slice_get numbers q ≡ Some (suc k)
  pub back : (k q : ℕ) → slice_get numbers q ≡ Some (suc k) → slice_get entries k ≡ Some q

pub record AreMet (e : Entries) : Type 0 where
  pub numbered : AreNumbered e.items.items e.numbers.items
  pub few : suc (length e.items.items) ≤ state_limit
  pub within : IsWithin e.layout (suc (length e.items.items))
  pub narrow : e.layout.stride ≤ 512
  pub few_starts : e.layout.starts ≤ 2 ^ 31

-- what was there stands where it stood
abbrev pub Stays : (old new : List ℕ) → Type 0
Stays old new = (k q : ℕ) → slice_get old k ≡ Some q → slice_get new k ≡ Some q

-- what is there was there before, or is this one
abbrev pub IsAdded : (old : List ℕ) → ℕ → (new : List ℕ) → Type 0
IsAdded old state new = (k q : ℕ) → slice_get new k ≡ Some q → (slice_get old k ≡ Some q) ⊎ (q ≡ state)

-- One entry may be more.
pub record Grows (old new : Entries) (state : ℕ) : Type 0 where
  pub stays : Stays old.items.items new.items.items
  pub added : IsAdded old.items.items state new.items.items
  pub layout : new.layout ≡ old.layout
  pub states : length new.numbers.items ≡ length old.numbers.items

-- why there is no row for one entry more
abbrev pub IsFull : Layout → (rows : ℕ) → BuildError → Type 0
IsFull layout rows (UnsupportedLook look) = ⊥
IsFull layout rows (TooManyPatterns limit) = ⊥
IsFull layout rows (TooManyStates limit) = (limit ≡ state_limit) × (rows ≡ suc state_limit)
IsFull layout rows (ExceededSizeLimit limit size) = (layout.limit ≡ Some limit) × (size ≡ size_of layout rows) × (limit < size)
IsFull layout rows (NotOnePass cause) = ⊥
IsFull layout rows Memory = Unit {0}

-- The state has no row yet, and gets none for that reason.
pub record HasNoRoom (e : Entries) (state : ℕ) (error : BuildError) : Type 0 where
  pub new : (k : ℕ) → slice_get e.items.items k ≢ Some state
  pub full : IsFull e.layout (suc (suc (length e.items.items))) error
