use Rattle.std.proofs.Common.{◌≡◌, ◌*◌, ◌<◌, ◌≤◌, ℕ, suc, length, slice_index}
use Rattle.rx_onepass_build.specs.Settled.{AreCellsOf}
use Rattle.rx_onepass_build.proofs.settled.settle.Given as goal

abbrev pub invariant-loop-row : goal.invariant-loop-row
invariant-loop-row l = record {
  within : l.row ≤ suc (length l.rows.finals.items);
  len : length l.cells.items ≡ l.row * l.stride;
  cells : (k : ℕ) → k < l.row
      → AreCellsOf l.rows.steps.items l.rows.finals.items l.order.after.items l.classes (slice_index l.order.before.items k) l.cells.items (k * l.stride);
}
