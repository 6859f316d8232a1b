use Rattle.std.proofs.Common.{◌≡◌, ◌≤◌, ℕ, ◌∷◌, List, length}
use Rattle.rx_search.specs.ByteClasses.{class_count}
use Rattle.rx_onepass_build.specs.Entries.{AreMet}
use Rattle.rx_onepass_build.specs.Filling.{IsFilling, IsRowBy}
use Rattle.rx_onepass_build.specs.Rows.{AreOf, IsReaderOn}
use Rattle.rx_onepass_build.proofs.closure.add_steps.Given as goal

abbrev pub invariant-loop-class : goal.invariant-loop-class
invariant-loop-class l = record {
  within : l.class ≤ class_count l.job.classes.now;
  met : AreMet l.entries;
  of : AreOf l.fn.entries l.entries;
  width : length l.cells.items ≡ class_count l.job.classes.now;
  cells : (done : List (List ℕ)) (way : List ℕ) → IsReaderOn l.job l.reader way
      → IsRowBy l.job l.fn.entries.items.items l.reader.entry done l.fn.cells.items
      → IsFilling l.job l.entries.items.items l.reader.entry done (way ∷ done) l.class l.cells.items;
}
