use Rattle.std.proofs.Common.{◌-◌}
use Rattle.rx_onepass_build.specs.Settled.{IsSorting}
use Rattle.rx_onepass_build.proofs.settled.sort.Given as goal

abbrev pub invariant-loop-low : goal.invariant-loop-low
invariant-loop-low l = IsSorting l.finals l.before.items l.after.items l.low l.high

abbrev pub decreases-loop-low : goal.decreases-loop-low
decreases-loop-low l = l.high - l.low
