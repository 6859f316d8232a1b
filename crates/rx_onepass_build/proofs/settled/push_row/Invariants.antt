use Rattle.std.proofs.Common.{◌≡◌, ◌+◌, ◌<◌, ◌≤◌, ℕ, length, slice_index}
use Rattle.rx_onepass_table.specs.Words.{step_of}
use Rattle.rx_onepass_build.specs.Settled.{step_before, settled_step}
use Rattle.rx_onepass_build.proofs.settled.push_row.Given as goal

abbrev pub invariant-loop-class : goal.invariant-loop-class
invariant-loop-class l = record {
  within : l.class ≤ l.classes;
  len : length l.cells.items ≡ length l.fn.cells.items + l.stride;
  kept : (i : ℕ) → i < length l.fn.cells.items → slice_index l.cells.items i ≡ slice_index l.fn.cells.items i;
  steps : (c : ℕ) → c < l.class → step_of (slice_index l.cells.items (length l.fn.cells.items + c))
      ≡ settled_step l.after (step_before l.rows.steps.items l.classes l.before c);
}
