use Rattle.std.proofs.Common.{◌≡◌, ◌++◌, take}
use Rattle.rx_search.specs.GroupInfo.{names_of}
use Rattle.rx_search.proofs.group_info.push_explicit.Given as goal

abbrev pub invariant-loop-group : goal.invariant-loop-group
invariant-loop-group l = names_of l.names.items ≡ names_of l.fn.names.items ++ names_of (take l.group-index l.explicit)
