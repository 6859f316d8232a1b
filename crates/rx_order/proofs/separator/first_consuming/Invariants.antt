use Rattle.std.proofs.Common.{◌≤◌, ◌-◌, length, take}
use Rattle.rx_order.specs.Places.{AreStill}
use Rattle.rx_order.proofs.separator.first_consuming.Given as goal

abbrev pub invariant-loop-i : goal.invariant-loop-i
invariant-loop-i l = record {
  within : l.i ≤ length l.parts;
  still : AreStill (take l.i l.parts);
}

abbrev pub decreases-loop-i : goal.decreases-loop-i
decreases-loop-i l = length l.parts - l.i
