use Rattle.std.proofs.Common.{◌≡◌, ◌++◌, drop}
use Rattle.rx_sets.specs.Clipped.{all_clipped}
use Rattle.rx_sets.proofs.members.all_clipped.Given as goal

abbrev pub invariant-loop-low : goal.invariant-loop-low
invariant-loop-low l = l.scalars.items ++ all_clipped (drop l.low-index l.ranges) ≡ all_clipped l.ranges
