use Rattle.std.proofs.Common.{◌≡◌, ◌≤◌, ◌-◌, true, false, length, take, drop}
use Rattle.std.specs.List.{list_all, list_any}
use Rattle.rx_literal.specs.Order.{follows}
use Rattle.rx_literal.proofs.order.position.Given as goal

abbrev pub invariant-loop-low : goal.invariant-loop-low
invariant-loop-low l = record {
  bounds : l.low ≤ l.high;
  within : l.high ≤ length l.literals;
  before : list_all (follows l.fn.order l.fn.literal) (take l.low l.literals) ≡ true;
  after : list_any (follows l.fn.order l.fn.literal) (drop l.high l.literals) ≡ false;
}

abbrev pub decreases-loop-low : goal.decreases-loop-low
decreases-loop-low l = l.high - l.low
