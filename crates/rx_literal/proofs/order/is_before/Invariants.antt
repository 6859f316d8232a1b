use Rattle.std.proofs.Common.{◌≡◌, ◌≤◌, ◌-◌, length, drop}
use Rattle.rx_literal.specs.Order.{before}
use Rattle.rx_literal.proofs.order.is_before.Given as goal

abbrev pub invariant-loop-i : goal.invariant-loop-i
invariant-loop-i l = record {
  so_far : before l.fn.order (drop l.i l.first) (drop l.i l.second) ≡ before l.fn.order l.first l.second;
  within : l.i ≤ length l.first;
  inside : l.i ≤ length l.second;
}

abbrev pub decreases-loop-i : goal.decreases-loop-i
decreases-loop-i l = length l.first - l.i
