use Rattle.std.proofs.Common.{◌≡◌, ◌≤◌, ℕ, [], length, drop}
use Rattle.std.specs.Prelude.{Option}
use Rattle.std.specs.Option.{option_or}
use Rattle.rx_model.specs.Runs.{Passed, nowhere}
use Rattle.rx_engines.specs.Search.{graph_until}
use Rattle.rx_nfa.specs.Automaton.{byte_at}
use Rattle.rx_nfa.specs.Ordered.{IsStable}
use Rattle.rx_engines.specs.Simulation.{Hit, among}
use Rattle.rx_engines.specs.Buffers.{room_of}
use Rattle.rx_engines.proofs.lemmas.threads.StepLemmas.{Stepping}
use Rattle.rx_engines.proofs.pikevm.step.step_over.Given as goal

abbrev pub invariant-loop-k : goal.invariant-loop-k
invariant-loop-k l = record {
  stepping : (end : ℕ) (later : Passed → Option Hit) (goal : Option Hit) → l.place ≤ end
      → byte_at l.search.text.now end l.place ≡ byte_at l.search.text.now l.search.end l.place → IsStable (graph_until l.search end) later
      → option_or (among l.search.states.now (graph_until l.search end) nowhere l.place l.curr.table.items l.curr.set.items) (later nowhere) ≡ goal
      → Stepping l.search.states.now (graph_until l.search end) l.place later l.curr.table.items (drop l.k l.curr.set.items) l.next.set.items l.next.table.items
      goal;
  accepting : among l.search.states.now (graph_until l.search l.place) nowhere l.place l.curr.table.items l.curr.set.items
      ≡ among l.search.states.now (graph_until l.search l.place) nowhere l.place l.curr.table.items (drop l.k l.curr.set.items);
  room : l.next.set.room ≡ length l.search.states.now;
  rows : length l.next.table.items ≡ length l.search.states.now;
  width : l.next.table.width ≡ l.fn.next.table.width;
  capacity : room_of l.next ≡ room_of l.fn.next;
  slots_len : length l.walk.slots.items ≡ length l.fn.walk.slots.items;
  slots_room : l.walk.slots.room ≡ l.fn.walk.slots.room;
  kept : l.best ≡ l.fn.best;
  empty : l.walk.stack.items ≡ [];
  stack_room : l.walk.stack.room ≡ l.fn.walk.stack.room;
}
