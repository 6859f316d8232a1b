use Rattle.std.proofs.Common.{◌≡◌, ◌≤◌, take}
use Rattle.rx_search.specs.GroupInfo.{groups_of, group_count}
use Rattle.rx_search.proofs.group_check.has_too_many.Given as goal

abbrev pub invariant-loop-groups : goal.invariant-loop-groups
invariant-loop-groups l = (l.count ≡ group_count (take l.groups-index (groups_of l.patterns))) × (l.count ≤ 1073741823)
