use Rattle.std.proofs.Common.{◌≡◌, ◌++◌, ◌-◌, ◌≤◌}
use Rattle.rx_search.specs.GroupInfo.{names_of, unnamed_groups}
use Rattle.rx_search.proofs.group_info.push_unnamed.Given as goal

abbrev pub invariant-loop : goal.invariant-loop
invariant-loop l = (names_of l.names.items ≡ names_of l.fn.names.items ++ unnamed_groups (l.counter - 1)) × (l.counter - 1 ≤ l.group_len - 1)
