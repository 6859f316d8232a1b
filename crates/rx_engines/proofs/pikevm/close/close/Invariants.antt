use Rattle.std.proofs.Common.{◌≡◌, ◌+◌, ◌∷◌, ◌≤◌, [], length, ℕ}
use Rattle.std.specs.Prelude.{Option}
use Rattle.rx_model.specs.Runs.{Passed}
use Rattle.rx_engines.specs.Search.{graph_until}
use Rattle.rx_engines.specs.declared.frame.Frame.TheVariants.{Explore}
use Rattle.rx_engines.specs.Walk.{AllWithin}
use Rattle.rx_nfa.specs.Ordered.{IsStable}
use Rattle.rx_engines.specs.Simulation.{Hit, Waits, frames_to_come}
use Rattle.rx_engines.specs.Buffers.{room_of}
use Rattle.rx_engines.proofs.pikevm.close.close.Given as goal

abbrev pub invariant-loop-frame : goal.invariant-loop-frame
invariant-loop-frame l = record {
  waits : (end : ℕ) (later : Passed → Option Hit) (goal : Option Hit) → l.place ≤ end → IsStable (graph_until l.search end) later
      → Waits l.search.states.now (graph_until l.search end) l.place l.start later l.fn.threads.set.items l.fn.threads.table.items
      (Explore l.fn.state l.place ∷ []) l.fn.walk.slots.items goal
      → Waits l.search.states.now (graph_until l.search end) l.place l.start later l.threads.set.items l.threads.table.items l.walk.stack.items
      l.walk.slots.items goal;
  here : AllWithin (length l.search.states.now) l.place l.place l.walk.stack.items;
  few : frames_to_come l.search.states.now l.place l.threads.set.items + length l.walk.stack.items ≤ l.walk.stack.room;
  room : l.threads.set.room ≡ length l.search.states.now;
  rows : length l.threads.table.items ≡ length l.search.states.now;
  width : l.threads.table.width ≡ l.fn.threads.table.width;
  capacity : room_of l.threads ≡ room_of l.fn.threads;
  kept : l.walk.slots.room ≡ l.fn.walk.slots.room;
  slots_len : length l.walk.slots.items ≡ length l.fn.walk.slots.items;
  stack_room : l.walk.stack.room ≡ l.fn.walk.stack.room;
}

abbrev pub decreases-loop-frame : goal.decreases-loop-frame
decreases-loop-frame l = frames_to_come l.search.states.now l.place l.threads.set.items + length l.walk.stack.items
