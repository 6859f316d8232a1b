use Rattle.std.proofs.Common.{◌≡◌, ◌≤◌}
use Rattle.rx_nfa.specs.Ranges.{whole_depth}
use Rattle.rx_nfa.proofs.class.ranges.whole_depth.Given as goal

abbrev pub invariant-loop-depth : goal.invariant-loop-depth
invariant-loop-depth l = (l.depth ≤ l.deepest) × (whole_depth l.deepest l.range ≡ whole_depth l.depth l.range)

abbrev pub decreases-loop-depth : goal.decreases-loop-depth
decreases-loop-depth l = l.depth
