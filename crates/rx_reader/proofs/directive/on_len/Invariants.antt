use Rattle.std.proofs.Common.{◌≡◌, ◌+◌, ◌-◌, ◌≤◌, length, drop}
use Rattle.rx_reader.specs.Flags.{on_len}
use Rattle.rx_reader.proofs.directive.on_len.Given as goal

abbrev pub invariant-loop-n : goal.invariant-loop-n
invariant-loop-n l = record {
  so_far : on_len l.named ≡ l.n + on_len (drop l.n l.named);
  within : l.n ≤ length l.named;
}

abbrev pub decreases-loop-n : goal.decreases-loop-n
decreases-loop-n l = length l.named - l.n
