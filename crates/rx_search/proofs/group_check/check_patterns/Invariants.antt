use Rattle.std.proofs.Common.{◌≡◌, ◌≤◌, take, None}
use Rattle.rx_search.specs.Limits.{id_limit}
use Rattle.rx_search.specs.GroupInfo.{groups_of, first_fault}
use Rattle.rx_search.proofs.group_check.check_patterns.Given as goal

abbrev pub invariant-loop-index : goal.invariant-loop-index
invariant-loop-index l = (first_fault 0 (take l.index (groups_of l.patterns)) ≡ None) × (l.index ≤ id_limit)
