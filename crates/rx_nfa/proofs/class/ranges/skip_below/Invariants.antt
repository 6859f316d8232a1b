use Rattle.std.proofs.Common.{length, ◌-◌, ◌≤◌, drop}
use Rattle.rx_nfa.specs.Ranges.{IsRest}
use Rattle.rx_nfa.proofs.class.ranges.skip_below.Given as goal

abbrev pub invariant-loop-skipped : goal.invariant-loop-skipped
invariant-loop-skipped l = (l.skipped ≤ length l.ranges) × IsRest l.start l.ranges (drop l.skipped l.ranges)

abbrev pub decreases-loop-skipped : goal.decreases-loop-skipped
decreases-loop-skipped l = length l.ranges - l.skipped
