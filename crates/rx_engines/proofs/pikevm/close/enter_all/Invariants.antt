use Rattle.std.proofs.Common.{◌≡◌, ◌≤◌, ℕ, [], length, drop}
use Rattle.std.specs.Prelude.{Option, map}
use Rattle.rx_model.specs.Runs.{Passed}
use Rattle.rx_nfa.specs.Automaton.{at}
use Rattle.rx_nfa.specs.Ordered.{IsStable}
use Rattle.rx_engines.specs.Search.{graph_until}
use Rattle.rx_engines.specs.Simulation.{Hit, Waits}
use Rattle.rx_engines.specs.Buffers.{room_of}
use Rattle.rx_engines.specs.Walk.{explore_all}
use Rattle.rx_engines.proofs.pikevm.close.enter_all.Given as goal

abbrev pub invariant-loop-k : goal.invariant-loop-k
invariant-loop-k l = record {
  waits : (end : ℕ) (later : Passed → Option Hit) (goal : Option Hit) → l.place ≤ end → IsStable (graph_until l.search end) later
      → Waits l.search.states.now (graph_until l.search end) l.place l.start later l.fn.threads.set.items l.fn.threads.table.items
      (explore_all (map (λ q. at q l.place) l.alternates)) l.slots goal
      → Waits l.search.states.now (graph_until l.search end) l.place l.start later l.threads.set.items l.threads.table.items
      (explore_all (map (λ q. at q l.place) (drop l.k l.alternates))) l.slots goal;
  room : l.threads.set.room ≡ length l.search.states.now;
  rows : length l.threads.table.items ≡ length l.search.states.now;
  width : l.threads.table.width ≡ l.fn.threads.table.width;
  capacity : room_of l.threads ≡ room_of l.fn.threads;
  slots_len : length l.walk.slots.items ≡ length l.fn.walk.slots.items;
  kept : l.walk.slots.room ≡ l.fn.walk.slots.room;
  empty : l.walk.stack.items ≡ [];
  stack_room : l.walk.stack.room ≡ l.fn.walk.stack.room;
}
