use Rattle.std.proofs.Common.{◌≡◌, ◌≤◌, ◌-◌, length, drop}
use Rattle.rx_order.specs.Inner.{first_fast}
use Rattle.rx_order.proofs.inner.in_parts.Given as goal

abbrev pub invariant-loop-i : goal.invariant-loop-i
invariant-loop-i l = record {
  past : 1 ≤ l.i;
  so_far : first_fast l.i (drop l.i l.parts.items) ≡ first_fast 1 (drop 1 l.parts.items);
}

abbrev pub decreases-loop-i : goal.decreases-loop-i
decreases-loop-i l = length l.parts.items - l.i
