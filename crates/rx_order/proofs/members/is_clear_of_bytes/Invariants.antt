use Rattle.std.proofs.Common.{◌≡◌, ◌≤◌, ◌-◌, true, length, take, drop}
use Rattle.rx_order.specs.Tests.{is_clear}
use Rattle.rx_order.proofs.members.is_clear_of_bytes.Given as goal

abbrev pub invariant-bytes : goal.invariant-bytes
invariant-bytes l = record {
  bounds : l.from ≤ l.to;
  within : l.to ≤ length l.ranges;
  before : is_clear (take l.from l.ranges) (l.low, l.high) ≡ true;
  after : is_clear (drop l.to l.ranges) (l.low, l.high) ≡ true;
}

abbrev pub decreases-bytes : goal.decreases-bytes
decreases-bytes l = l.to - l.from
