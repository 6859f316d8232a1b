use Rattle.std.proofs.Common.{◌≡◌, ◌+◌, ◌<◌, ◌≤◌, ◌∷◌, length, ℕ}
use Rattle.std.specs.Prelude.{Option}
use Rattle.rx_model.specs.Runs.{Passed}
use Rattle.rx_engines.specs.Search.{graph_until}
use Rattle.rx_engines.specs.declared.frame.Frame.TheVariants.{Explore}
use Rattle.rx_engines.specs.Walk.{AllWithin}
use Rattle.rx_nfa.specs.Ordered.{IsStable, passed_at}
use Rattle.rx_nfa.proofs.lemmas.lists.PlaceLemmas.{left_at}
use Rattle.rx_engines.specs.Simulation.{Hit, Waits, frames_to_come}
use Rattle.rx_engines.specs.Buffers.{room_of}
use Rattle.rx_engines.proofs.pikevm.close.follow.Given as goal

abbrev pub invariant-loop-state : goal.invariant-loop-state
invariant-loop-state l = record {
  followed : (end : ℕ) (later : Passed → Option Hit) (goal : Option Hit) → l.place ≤ end → IsStable (graph_until l.search end) later
      → Waits l.search.states.now (graph_until l.search end) l.place l.start later l.fn.threads.set.items l.fn.threads.table.items
      (Explore l.fn.from l.place ∷ l.fn.walk.stack.items) l.fn.walk.slots.items goal
      → Waits l.search.states.now (graph_until l.search end) l.place l.start later l.threads.set.items l.threads.table.items
      (Explore l.state l.place ∷ l.walk.stack.items) l.walk.slots.items goal;
  state : l.state < length l.search.states.now;
  inside : AllWithin (length l.search.states.now) l.place l.place l.walk.stack.items;
  less : frames_to_come l.search.states.now l.place l.threads.set.items + length l.walk.stack.items
      ≤ frames_to_come l.search.states.now l.place l.fn.threads.set.items + length l.fn.walk.stack.items;
  room : l.threads.set.room ≡ l.fn.threads.set.room;
  rows : length l.threads.table.items ≡ length l.fn.threads.table.items;
  width : l.threads.table.width ≡ l.fn.threads.table.width;
  capacity : room_of l.threads ≡ room_of l.fn.threads;
  kept : l.walk.slots.room ≡ l.fn.walk.slots.room;
  slots_len : length l.walk.slots.items ≡ length l.fn.walk.slots.items;
  stack_room : l.walk.stack.room ≡ l.fn.walk.stack.room;
}

abbrev pub decreases-loop-state : goal.decreases-loop-state
decreases-loop-state l = left_at (length l.search.states.now) l.place (passed_at l.threads.set.items l.place)
