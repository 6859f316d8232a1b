use Rattle.std.proofs.Common.{◌≡◌, ◌≤◌, ◌++◌, length, drop, reverse}
use Rattle.rx_dfa.proofs.close.push_all.Given as goal

abbrev pub invariant-loop-left : goal.invariant-loop-left
invariant-loop-left l = record {
  pushed : reverse l.stack.items ≡ drop l.left l.states ++ reverse l.fn.stack.items;
  within : l.left ≤ length l.states;
}

abbrev pub decreases-loop-left : goal.decreases-loop-left
decreases-loop-left l = l.left
