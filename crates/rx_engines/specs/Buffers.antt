-- What a search of the PikeVM writes to, and what fits.
use Rattle.std.specs.Prelude.{◌≡◌, ℕ, ◌+◌, ◌≤◌, List, [], length, if◌then◌else◌}
use Rattle.rx_nfa.specs.declared.state.State.{State}
use Rattle.rx_engines.specs.Room.{Room}
use Rattle.rx_engines.specs.Simulation.{frames_of_states}
use Rattle.rx_engines.specs.declared.pikevm.threads.Threads.{Threads}
use Rattle.rx_engines.specs.declared.pikevm.buffers.Buffers.{Buffers}

-- the threads at the place
abbrev pub curr_of : Buffers → Threads
curr_of b = if b.turned then b.odd else b.even

-- each of n states may have a thread, with so many slots
pub record HasRows (n width : ℕ) (t : Threads) : Type 0 where
  pub set : t.set.room ≡ n
  pub rows : length t.table.items ≡ n
  pub wide : t.table.width ≡ width

-- The buffers fit a search of these states, with so many slots to a thread and to a match. The stack is empty.
pub record IsReady (states : List State) (width : ℕ) (b : Buffers) : Type 0 where
  pub even : HasRows (length states) width b.even
  pub odd : HasRows (length states) width b.odd
  pub slots : length b.walk.slots.items ≡ width
  pub best : length b.best.items ≡ width
  pub stack : frames_of_states states (length states) ≤ b.walk.stack.room
  pub empty : b.walk.stack.items ≡ []

-- for how many states the threads have room, for how many rows, and for how many slots in all
abbrev pub room_of : Threads → ℕ × (ℕ × ℕ)
room_of t = (t.set.capacity, (t.table.capacity, t.table.cells))

-- each buffer has the same room as before
pub record KeepsRoom (old new : Buffers) : Type 0 where
  pub even : room_of new.even ≡ room_of old.even
  pub odd : room_of new.odd ≡ room_of old.odd
  pub slots : new.walk.slots.room ≡ old.walk.slots.room
  pub stack : new.walk.stack.room ≡ old.walk.stack.room
  pub best : new.best.room ≡ old.best.room

-- both lists have the same room, and both rows of slots; the stack is empty
pub record AreAlike (b : Buffers) : Type 0 where
  pub even : b.even.table.capacity ≡ b.even.set.capacity
  pub odd : room_of b.odd ≡ room_of b.even
  pub slots : b.walk.slots.room ≡ b.best.room
  pub empty : b.walk.stack.items ≡ []

-- how many threads and slots of a search are in the buffers; a row without a thread stands for nothing
abbrev pub held_by : Buffers → ℕ
held_by b = length b.even.set.items + (length b.odd.set.items + (length b.walk.slots.items + length b.best.items))

-- the room of a cache of these buffers, for which so much is accounted
abbrev pub room_for : Buffers → (memory : ℕ) → Room
room_for b memory =
    record { states = b.even.set.capacity; cells = b.even.table.cells; stack = b.walk.stack.room; slots = b.best.room; memory = memory; held = held_by b }
