use Rattle.std.proofs.Common.{◌≡◌, ◌+◌, ◌≤◌, length}
use Rattle.rx_model.specs.Runs.{first_trace}
use Rattle.rx_nfa.specs.Automaton.{at}
use Rattle.rx_engines.specs.Walk.{answer}
use Rattle.rx_engines.specs.Search.{graph_for}
use Rattle.rx_engines.specs.Backtrack.{passed_by, work, frames_left, AllInside, Searching}
use Rattle.rx_engines.proofs.backtrack.attempt.attempt.Given as goal

abbrev pub invariant-loop-frame : goal.invariant-loop-frame
invariant-loop-frame l = record {
  searching : Searching (graph_for l.search) (passed_by l.search l.fn.visited) (passed_by l.search l.visited)
      (answer l.fn.slots (first_trace (graph_for l.search) (at l.search.start l.from))) l.fn.slots l.stack.items l.slots;
  inside : AllInside l.search l.stack.items;
  frames : frames_left l.search l.visited + length l.stack.items ≤ l.stack.room;
  stack : l.stack.room ≡ l.fn.stack.room;
  room : length l.visited ≡ length l.fn.visited;
  width : length l.slots ≡ length l.fn.slots;
}

abbrev pub decreases-loop-frame : goal.decreases-loop-frame
decreases-loop-frame l = work l.search l.visited + length l.stack.items
