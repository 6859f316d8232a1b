use Rattle.std.proofs.Common.{◌≡◌, ◌≤◌, ◌-◌, ◌++◌, length, take, drop}
use Rattle.rx_literal.specs.Trim.{past_longer}
use Rattle.rx_literal.proofs.trim.drop_longer.Given as goal

abbrev pub invariant-loop-literals : goal.invariant-loop-literals
invariant-loop-literals l = record {
  so_far : take l.at l.literals.items ++ past_longer l.literal (drop l.at l.literals.items)
      ≡ take l.at l.fn.literals.items ++ past_longer l.literal (drop l.at l.fn.literals.items);
  within : l.at ≤ length l.literals.items;
}

abbrev pub decreases-loop-literals : goal.decreases-loop-literals
decreases-loop-literals l = length l.literals.items - l.at
