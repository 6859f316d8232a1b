-- The table of a DFA: a row for each state.
use Rattle.std.specs.Prelude.{◌≡◌, ℕ, ◌+◌, ◌*◌, ◌^◌, ◌-◌, ◌<◌, ◌≤◌, Bool, true, false, List, length, Option, Some, None, if◌then◌else◌, slice_get, slice_index}
use Rattle.rx_model.specs.Search.{Anchor, free, anchored, anchored_to}
use Rattle.rx_search.specs.Limits.{id_limit}
use Rattle.rx_search.specs.ByteClasses.{alphabet_len, IsLeastPower}
use Rattle.rx_nfa.specs.NextMatch.{start_of}
use Rattle.rx_determinize.specs.Key.{Key, start_key}
use Rattle.rx_determinize.specs.Span.{loops_in}
use Rattle.rx_dfa.specs.Automaton.{Dfa, IsSound, IsReadable, MakesQuit, AsksForWords, no_key, next_key, last_key}
use Rattle.rx_dfa.specs.States.{canonical, is_special, IsRead, AreStates}

-- the number that stands in a cell where the automaton quits
abbrev pub quit : ℕ
quit = id_limit - 1

-- The number is that of the key's row, where the rows begin at `first`.
pub record IsRow (stride : ℕ) (keys : List Key) (first number : ℕ) (k : Key) : Type 0 where
  pub row : ℕ
  pub there : slice_get keys row ≡ Some (canonical k)
  pub is : number ≡ first + row * stride

-- What stands in a cell for a byte: the number of the key after it, or that of the state in which the automaton quits.
pub record IsCell (d : Dfa) (IsNumber : ℕ → Key → Type 0) (byte : ℕ) (k : Key) (cell : ℕ) : Type 0 where
  pub reads : IsReadable d.nfa (Some byte) → IsNumber cell (next_key d k byte)
  pub quits : MakesQuit d.nfa byte → cell ≡ quit

-- The cells are those of the rows of the first n keys: one for each class of bytes, and one for the end of input.
pub record AreRows (d : Dfa) (stride : ℕ) (IsNumber : ℕ → Key → Type 0) (keys : List Key) (n : ℕ) (cells : List ℕ) : Type 0 where
  pub len : length cells ≡ n * stride
  pub steps : (row class : ℕ) (k : Key) → row < n → slice_get keys row ≡ Some k → class < length d.bytes
      → IsCell d IsNumber (slice_index d.bytes class) k (slice_index cells (row * stride + class))
  pub ends : (row : ℕ) (k : Key) → row < n → slice_get keys row ≡ Some k
      → IsNumber (slice_index cells (row * stride + length d.bytes)) (last_key d k)

-- How many classes there are of what stands beside a start: those of the bytes, and that of no byte; or one where none is kept.
abbrev pub context_count : (keeps : Bool) → (bytes : List ℕ) → ℕ
context_count keeps bytes = if keeps then length bytes + 1 else 1

-- what is kept of what stands beside a start, by its class
abbrev pub context : (keeps : Bool) → (bytes : List ℕ) → (class : ℕ) → Option ℕ
context keeps bytes class = if keeps then slice_get bytes class else None

-- the class of what stands beside a start
abbrev pub context_of : (keeps : Bool) → (classes bytes : List ℕ) → Option ℕ → ℕ
context_of false classes bytes beside = 0
context_of true classes bytes None = length bytes
context_of true classes bytes (Some byte) = slice_index classes byte

-- the place of a mode's starts among those of all modes
abbrev pub mode_of : Anchor → ℕ
mode_of free = 0
mode_of anchored = 1
mode_of (anchored_to p) = p + 2

-- Of each mode there is the start for each class of what stands beside it.
pub record AreStarts (d : Dfa) (IsNumber : ℕ → Key → Type 0) (starts : List ℕ) : Type 0 where
  pub len : length starts ≡ (length d.nfa.starts + 2) * context_count d.keeps d.bytes
  pub each : (anchor : Anchor) (start class : ℕ) → start_of d.nfa anchor ≡ Some start → class < context_count d.keeps d.bytes
      → IsRead d.nfa (context d.keeps d.bytes class)
      → IsNumber (slice_index starts (mode_of anchor * context_count d.keeps d.bytes + class))
      (start_key d.kind d.nfa.states start (loops_in anchor) (context d.keeps d.bytes class))

-- A full DFA, as a contract sees it.
pub record DenseValue : Type 0 where
  pub dfa : Dfa
  -- the NFA asks for words of Unicode
  pub words : Bool
  pub stride2 : ℕ
  -- the keys of the rows
  pub keys : List Key
  pub table : List ℕ
  -- how many rows stand before the others, and where those begin
  pub plain : ℕ
  pub dead : ℕ
  pub starts : List ℕ
  pub matches : List (List ℕ)

-- The state of this number is that of the key.
abbrev pub Holds : DenseValue → (number : ℕ) → Key → Type 0
Holds v number k = IsRow (2 ^ v.stride2) v.keys 0 number k

-- Each cell is the number of the step of its row's key, and no two rows have one key. The dead state and those that tell a match
-- stand behind the others.
pub record IsDense (v : DenseValue) : Type 0 where
  pub sound : IsSound v.dfa
  pub words : v.words ≡ true → AsksForWords v.dfa.nfa
  pub no_words : v.words ≡ false → AsksForWords v.dfa.nfa → ⊥
  pub power : IsLeastPower (alphabet_len v.dfa.classes) v.stride2
  pub small : v.stride2 ≤ 9
  pub few : length v.keys * 2 ^ v.stride2 ≤ quit
  pub states : AreStates v.dfa v.keys
  pub plain : (row : ℕ) (k : Key) → row < v.plain → slice_get v.keys row ≡ Some k → is_special k ≡ false
  pub special : (row : ℕ) (k : Key) → v.plain ≤ row → slice_get v.keys row ≡ Some k → is_special k ≡ true
  pub dead : v.dead ≡ v.plain * 2 ^ v.stride2
  pub dead_key : slice_get v.keys v.plain ≡ Some (no_key None)
  pub rows : AreRows v.dfa (2 ^ v.stride2) (Holds v) v.keys (length v.keys) v.table
  pub starts : AreStarts v.dfa (Holds v) v.starts
  pub matches : (row : ℕ) (k : Key) → slice_get v.keys (v.plain + row) ≡ Some k → slice_get v.matches row ≡ Some k.matches
