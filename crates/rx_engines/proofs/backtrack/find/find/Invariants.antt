use Rattle.std.proofs.Common.{◌≡◌, ◌≤◌, ◌+◌, ◌-◌, length}
use Rattle.std.specs.Prelude.{replicate, None}
use Rattle.rx_model.specs.Runs.{first_trace}
use Rattle.rx_model.specs.Search.{first_start}
use Rattle.rx_nfa.specs.Automaton.{at}
use Rattle.rx_engines.specs.Search.{graph_for, is_offered, may_start, next_of}
use Rattle.rx_engines.specs.Backtrack.{passed_by, frames_left, IsDead}
use Rattle.rx_engines.proofs.backtrack.find.find.Given as goal

abbrev pub invariant-loop-place : goal.invariant-loop-place
invariant-loop-place l = record {
  first : l.search.first ≤ l.place;
  none_yet : first_start (may_start (is_offered l.search) l.search) (λ i. first_trace (graph_for l.search) (at l.search.start i)) (l.search.last + 1 - l.place)
      l.place ≡ next_of (is_offered l.search) l.search;
  dead : IsDead (graph_for l.search) (passed_by l.search l.visited);
  empty : l.slots ≡ replicate (length l.fn.slots) None;
  frames : frames_left l.search l.visited ≤ l.stack.room;
  stack : l.stack.room ≡ l.fn.stack.room;
  room : length l.visited ≡ length l.fn.visited;
}

abbrev pub decreases-loop-place : goal.decreases-loop-place
decreases-loop-place l = l.search.last + 1 - l.place
