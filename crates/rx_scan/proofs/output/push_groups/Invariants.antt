use Rattle.std.proofs.Common.{◌≡◌, ◌+◌, ◌-◌, ◌≤◌, ◌++◌, length, drop}
use Rattle.rx_scan.specs.Row.{groups_text}
use Rattle.rx_scan.proofs.output.push_groups.Given as goal

abbrev pub invariant-loop-at : goal.invariant-loop-at
invariant-loop-at l = record {
  told : l.text.items ++ groups_text (drop l.at l.slots) l.group ≡ l.initial.text.items ++ groups_text l.slots 1;
  within : l.at ≤ length l.slots;
  few : l.group ≤ 1 + l.at;
}

abbrev pub decreases-loop-at : goal.decreases-loop-at
decreases-loop-at l = length l.slots - l.at
