use Rattle.std.proofs.Common.{◌≡◌, map, take}
use Rattle.rx_search.specs.GroupInfo.{groups_of}
use Rattle.rx_hir.specs.Names.{group_names}
use Rattle.rx_nfa.proofs.compiler.grouping.group_info.Given as goal

abbrev pub invariant-loop-hir : goal.invariant-loop-hir
invariant-loop-hir l = groups_of l.groups.items ≡ map group_names (take l.hir-index l.exprs)
