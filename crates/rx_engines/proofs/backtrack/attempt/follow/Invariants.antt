use Rattle.std.proofs.Common.{◌≡◌, ◌+◌, ◌-◌, ◌*◌, ◌<◌, ◌≤◌, ◌∷◌, length}
use Rattle.std.specs.Prelude.{Option}
use Rattle.rx_model.specs.Runs.{Passed}
use Rattle.rx_engines.specs.Walk.{Slots, Answer}
use Rattle.rx_engines.specs.declared.frame.Frame.TheVariants.{Explore}
use Rattle.rx_engines.specs.Search.{graph_for}
use Rattle.rx_engines.specs.Backtrack.{passed_by, work, frames_left, AllInside, Searching}
use Rattle.rx_engines.proofs.backtrack.attempt.follow.Given as goal

abbrev pub invariant-loop-state : goal.invariant-loop-state
invariant-loop-state l = record {
  followed : (before : Passed) (goal : Option Answer) (base : Slots)
      → Searching (graph_for l.search) before (passed_by l.search l.fn.visited) goal base (Explore l.fn.start l.fn.from ∷ l.fn.stack.items) l.fn.slots
      → Searching (graph_for l.search) before (passed_by l.search l.visited) goal base (Explore l.state l.place ∷ l.stack.items) l.slots;
  state : l.state < length l.search.states.now;
  above : l.search.first ≤ l.place;
  below : l.place ≤ l.search.end;
  row : l.row ≡ (l.place - l.search.first) * length l.search.states.now;
  inside : AllInside l.search l.stack.items;
  less : work l.search l.visited + length l.stack.items ≤ work l.search l.fn.visited + length l.fn.stack.items;
  frames : frames_left l.search l.visited + length l.stack.items ≤ l.stack.room;
  stack : l.stack.room ≡ l.fn.stack.room;
  room : length l.visited ≡ length l.fn.visited;
  width : length l.slots ≡ length l.fn.slots;
}

abbrev pub decreases-loop-state : goal.decreases-loop-state
decreases-loop-state l = work l.search l.visited + length l.stack.items
