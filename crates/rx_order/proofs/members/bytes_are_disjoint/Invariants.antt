use Rattle.std.proofs.Common.{◌≡◌, drop}
use Rattle.rx_order.specs.Tests.{are_disjoint}
use Rattle.rx_order.proofs.members.bytes_are_disjoint.Given as goal

abbrev pub invariant-loop-low : goal.invariant-loop-low
invariant-loop-low l = are_disjoint l.ranges (drop l.low-index l.others) ≡ are_disjoint l.ranges l.others
