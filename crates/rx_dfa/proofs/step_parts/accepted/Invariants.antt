use Rattle.std.proofs.Common.{◌≡◌, ◌≤◌, drop, length}
use Rattle.rx_determinize.specs.Key.{accepted_by}
use Rattle.rx_dfa.proofs.step_parts.accepted.Given as goal

abbrev pub invariant-loop-left : goal.invariant-loop-left
invariant-loop-left l = record {
  gathered : l.into.items ≡ accepted_by l.states (drop l.left l.list);
  within : l.left ≤ length l.list;
}

abbrev pub decreases-loop-left : goal.decreases-loop-left
decreases-loop-left l = l.left
