use Rattle.std.proofs.Common.{◌≡◌}
use Rattle.rx_search.specs.GroupInfo.{names_of, unnamed_groups}
use Rattle.rx_hir.proofs.hir.names.unnamed.Given as goal

abbrev pub invariant-loop : goal.invariant-loop
invariant-loop l = names_of l.names.items ≡ unnamed_groups l.counter
