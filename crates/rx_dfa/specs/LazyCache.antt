-- What the cache of a lazy DFA holds.
use Rattle.std.specs.Prelude.{◌≡◌, ℕ, ◌+◌, ◌*◌, ◌<◌, ◌≤◌, [], length, Some, None, slice_get}
use Rattle.rx_determinize.specs.Key.{Key}
use Rattle.rx_dfa.specs.Scratch.{room_of}
use Rattle.rx_dfa.specs.Lazy.{LazyValue, StandsFor, begun_key, AreCells, IsLive, IsNew, state_size, accounted, offsets}
use Rattle.rx_dfa.specs.declared.lazy.start.Start.{Start}
use Rattle.rx_dfa.specs.declared.lazy.rows.Rows.{Rows}
use Rattle.rx_dfa.specs.declared.lazy.lazy_cache.LazyCache.{LazyCache}
use Rattle.rx_dfa.specs.declared.step_error.StepError.{StepError}
use Rattle.rx_dfa.specs.declared.step_error.StepError.TheVariants.{Quit as QuitsAt, GaveUp as GivesUp, Memory as WantsMemory}

-- Whatever was asked for: each cell is unknown or the step of its row's key, each start the start's key, each row's key is a state of
-- the automaton, no two rows have one key (as the rows' own type has it), and the accounted size is exact and within the capacity.
pub record AreRowsOf (l : LazyValue) (r : Rows) : Type 0 where
  pub cells : AreCells l r.keys r.cells.items
  pub len : length r.cells.items ≡ length r.keys * l.stride
  pub few : length r.cells.items ≤ offsets
  pub keys : (row : ℕ) (k : Key) → slice_get r.keys row ≡ Some k → IsLive l.dfa k
  pub starts : (i : ℕ) (s : Start) → slice_get r.starts.items i ≡ Some s → StandsFor l.stride r.keys s.state (begun_key l.dfa s.start s.loops s.before)
  pub size : r.size ≡ accounted l.stride r.keys
  pub fits : r.size ≤ l.capacity

pub record IsCacheOf (l : LazyValue) (c : LazyCache) : Type 0 where
  pub rows : AreRowsOf l c.rows
  pub room : room_of c.scratch ≡ length l.dfa.nfa.states

-- It is as if new: it holds no state and accounts nothing, was never cleared, and no search counts its steps.
pub record HoldsNone (c : LazyCache) : Type 0 where
  pub keys : c.rows.keys ≡ []
  pub size : c.rows.size ≡ 0
  pub clears : c.rows.clears ≡ 0
  pub since : c.rows.since ≡ None

-- Why it gave up: a state of the automaton that no row has would not fit, it was cleared at least three times since it was new or
-- reset, and fewer than ten steps were taken for each of its states since the last time.
pub record GaveUpOn (l : LazyValue) (r : Rows) : Type 0 where
  pub key : Key
  pub is_new : IsNew r.keys key
  pub live : IsLive l.dfa key
  pub full : l.capacity < r.size + state_size l.stride key
  pub cleared : 3 ≤ r.clears
  pub few : r.calls < 10 * length r.keys

-- why there is no room for a state more
abbrev pub RoomFails : LazyValue → Rows → StepError → Type 0
RoomFails l r (QuitsAt byte) = ⊥
RoomFails l r GivesUp = GaveUpOn l r
RoomFails l r WantsMemory = Unit {0}
