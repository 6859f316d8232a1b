-- What a lazy DFA is to a contract, and what its cache holds.
use Rattle.std.specs.Prelude.{◌≡◌, ◌≢◌, ◌⊎◌, ℕ, ◌+◌, ◌*◌, ◌^◌, ◌/◌, ◌%◌, ◌<◌, ◌≤◌, Bool, true, false, List, length, Option, Some, None, IfSome, if◌then◌else◌, slice_get, slice_index}
use Rattle.std.specs.List.{sum_by}
use Rattle.rx_search.specs.ByteClasses.{alphabet_len}
use Rattle.rx_nfa.specs.Nfa.{Nfa}
use Rattle.rx_nfa.specs.Ordered.{AreBelow}
use Rattle.rx_determinize.specs.Key.{Key, is_empty, is_dead, start_key}
use Rattle.rx_dfa.specs.Automaton.{Dfa, IsSound, IsReadable, next_key, last_key}
use Rattle.rx_dfa.specs.States.{IsReached}

pub record LazyValue : Type 0 where
  pub dfa : Dfa
  -- how many cells a row of the table has
  pub stride : ℕ
  -- the most bytes that a cache may account
  pub capacity : ℕ

-- the least capacity
abbrev pub minimum : Nfa → ℕ
minimum nfa = 16384 + 16 * nfa.accounted

-- It is sound, a row has a cell for each class of bytes and one for the end of input, and a cache has room. No fewer states are
-- accounted for the NFA than it has, so that there is room for two states of the DFA.
pub record IsLazySound (l : LazyValue) : Type 0 where
  pub dfa : IsSound l.dfa
  pub wide : alphabet_len l.dfa.classes ≤ l.stride
  pub narrow : l.stride ≤ 512
  pub room : minimum l.dfa.nfa ≤ l.capacity
  pub few : length l.dfa.nfa.states ≤ l.dfa.nfa.accounted
  pub small : l.capacity < 2 ^ 64

-- the bytes that are accounted for a state: its row, the states of the NFA in it, of which the loop is one, and 16 more
abbrev pub state_size : (stride : ℕ) → Key → ℕ
state_size stride k = 4 * stride + 4 * (length k.threads + (if k.loops then 1 else 0)) + 16

-- the bytes that are accounted for these
abbrev pub accounted : (stride : ℕ) → List Key → ℕ
accounted stride keys = sum_by (state_size stride) keys

-- Numbers of states. A plain one is the place of its row in the table; that of a state that tells a match is greater by this. No
-- table has more cells.
abbrev pub offsets : ℕ
offsets = 536870912

-- the dead state, which has no row
abbrev pub dead_state : ℕ
dead_state = 1073741824

-- what a cell holds whose state was not asked for yet
abbrev pub unknown : ℕ
unknown = 1610612736

-- the number of the state of this row and key
abbrev pub number_of : (stride row : ℕ) → Key → ℕ
number_of stride row k = row * stride + (if is_empty k.matches then 0 else offsets)

-- the row of the state of this number, if it has one
abbrev pub row_of : (stride state : ℕ) → ℕ
row_of stride state = state % offsets / stride

-- It is the state of a row with this key.
pub record IsRowOf (stride : ℕ) (keys : List Key) (state : ℕ) (k : Key) : Type 0 where
  pub alive : is_dead k ≡ false
  pub key : slice_get keys (row_of stride state) ≡ Some k
  pub small : row_of stride state * stride < offsets
  pub is : state ≡ number_of stride (row_of stride state) k

pub record IsDeadState (state : ℕ) (k : Key) : Type 0 where
  pub dead : is_dead k ≡ true
  pub is : state ≡ dead_state

-- The state of this number stands for the key: it is the dead one, or that of a row with this key.
abbrev pub StandsFor : (stride : ℕ) → List Key → (state : ℕ) → Key → Type 0
StandsFor stride keys state k = IsDeadState state k ⊎ IsRowOf stride keys state k

-- where the loop begins no run, or runs begin at each place, from this state on
abbrev pub begun_key : Dfa → (start : ℕ) → (loops : Bool) → (before : Option ℕ) → Key
begun_key d start loops before = start_key d.kind d.nfa.states start loops before

-- the state after each byte of the class that the column is for, or after the end of input
pub record IsNext (l : LazyValue) (keys : List Key) (k : Key) (column state : ℕ) : Type 0 where
  pub bytes : (byte : ℕ) → byte < 256 → slice_index l.dfa.classes byte ≡ column
      → IsReadable l.dfa.nfa (Some byte) × StandsFor l.stride keys state (next_key l.dfa k byte)
  pub end : column ≡ length l.dfa.bytes → StandsFor l.stride keys state (last_key l.dfa k)

-- a cell is unknown, or the state that comes after its row's key
abbrev pub AreCells : LazyValue → List Key → (cells : List ℕ) → Type 0
AreCells l keys cells = (i x : ℕ) (k : Key) → slice_get cells i ≡ Some x → x ≢ unknown → slice_get keys (i / l.stride) ≡ Some k
    → IsNext l keys k (i % l.stride) x

-- A key that a row may have: it is not dead, and it is come to from a start, in some way.
pub record IsLive (d : Dfa) (k : Key) : Type 0 where
  pub alive : is_dead k ≡ false
  pub reached : ∥ IsReached d k ∥₁
  pub below : AreBelow (length d.nfa.states) k.threads
  pub few : length k.threads ≤ length d.nfa.states
  pub byte : IfSome k.before (λ b. b < 256)
  pub readable : IsReadable d.nfa k.before

-- the key after this byte, or after the end of input
abbrev pub key_after : Dfa → Key → (byte : Option ℕ) → Key
key_after d k None = last_key d k
key_after d k (Some byte) = next_key d k byte

-- the column of this byte, or of the end of input
abbrev pub column_of : Dfa → (byte : Option ℕ) → ℕ
column_of d None = length d.bytes
column_of d (Some byte) = slice_index d.classes byte

-- this key is not among them
abbrev pub IsNew : List Key → Key → Type 0
IsNew keys k = (row : ℕ) → slice_get keys row ≡ Some k → ⊥
