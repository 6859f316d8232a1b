use Rattle.std.proofs.Common.{◌≡◌, ◌-◌, ◌≤◌, ◌<◌, ℕ, length}
use Rattle.rx_onepass_build.specs.Filling.{no_step, step_at}
use Rattle.rx_onepass_build.proofs.closure.clear_cells.Given as goal

abbrev pub invariant-loop-number : goal.invariant-loop-number
invariant-loop-number l = record {
  within : l.number ≤ l.count;
  len : length l.cells.items ≡ l.number;
  value : (k : ℕ) → k < l.number → step_at l.cells.items k ≡ no_step;
}

abbrev pub decreases-loop-number : goal.decreases-loop-number
decreases-loop-number l = l.count - l.number
