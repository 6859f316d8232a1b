use Rattle.std.proofs.Common.{◌≡◌, ◌<◌, ◌≤◌, ◌∷◌, ℕ, [], length}
use Rattle.std.specs.Prelude.{Option}
use Rattle.rx_model.specs.Runs.{Passed}
use Rattle.rx_nfa.specs.Ordered.{IsStable, passed_at}
use Rattle.rx_nfa.proofs.lemmas.lists.PlaceLemmas.{left_at}
use Rattle.rx_engines.specs.Search.{graph_until}
use Rattle.rx_engines.specs.declared.frame.Frame.TheVariants.{Explore}
use Rattle.rx_engines.specs.Simulation.{Hit, Waits}
use Rattle.rx_engines.specs.Buffers.{room_of}
use Rattle.rx_engines.proofs.pikevm.close.lead_on.Given as goal

abbrev pub invariant-loop-next : goal.invariant-loop-next
invariant-loop-next l = record {
  waits : (end : ℕ) (later : Passed → Option Hit) (goal : Option Hit) → l.place ≤ end → IsStable (graph_until l.search end) later
      → Waits l.search.states.now (graph_until l.search end) l.place l.start later l.fn.threads.set.items l.fn.threads.table.items
      (Explore l.fn.from l.place ∷ []) l.slots goal
      → Waits l.search.states.now (graph_until l.search end) l.place l.start later l.threads.set.items l.threads.table.items
      (Explore l.state l.place ∷ []) l.walk.slots.items goal;
  state : l.state < length l.search.states.now;
  room : l.threads.set.room ≡ length l.search.states.now;
  rows : length l.threads.table.items ≡ length l.search.states.now;
  width : l.threads.table.width ≡ l.fn.threads.table.width;
  capacity : room_of l.threads ≡ room_of l.fn.threads;
  slots_len : length l.walk.slots.items ≡ length l.fn.walk.slots.items;
  kept : l.walk.slots.room ≡ l.fn.walk.slots.room;
  empty : l.walk.stack.items ≡ [];
  stack_room : l.walk.stack.room ≡ l.fn.walk.stack.room;
}

abbrev pub decreases-loop-next : goal.decreases-loop-next
decreases-loop-next l = left_at (length l.search.states.now) l.place (passed_at l.threads.set.items l.place)
