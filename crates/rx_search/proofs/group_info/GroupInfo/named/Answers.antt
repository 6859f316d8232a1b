use Rattle.std.proofs.Common.{sym, subst}
use Rattle.rx_search.specs.GroupInfo.{groups_of}
use Rattle.rx_search.proofs.GroupLemmas.{AreTables, AreOf-tables}
use Rattle.rx_search.proofs.group_info.GroupInfo.named.Goals as goal

pub invariant_of-result : goal.invariant_of-result
invariant_of-result c =
    let made = c.in_ok-tables.tables in
    let kept = AreOf-tables (groups_of c.args.groups.now) made.names.items made.patterns.items c.in_ok-tables.ensures c.requires.few in
    subst (λ t. AreTables t.names.items t.patterns.items) (sym c.in_ok-tables-2.ensures.ok) kept
