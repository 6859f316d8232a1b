use Rattle.std.proofs.Common.{sym, subst, []}
use Rattle.std.proofs.lemmas.List.Elements.{All-from_get_or}
use Rattle.rx_search.specs.GroupInfo.{groups_of, BeginsUnnamed}
use Rattle.rx_search.proofs.FaultLemmas.{refused_none, faultless_at}
use Rattle.rx_search.proofs.GroupLemmas.{AreTables, AreOf-tables}
use Rattle.rx_search.proofs.group_info.GroupInfo.new.Goals as goal

pub named_tables-requires : goal.named_tables-requires
named_tables-requires c =
    let gs = groups_of c.args.groups.now in
    All-from_get_or BeginsUnnamed gs [] (λ i lt. faultless_at 0 gs i (refused_none gs c.in_ok-check.ensures).faultless lt)

pub invariant_of-result : goal.invariant_of-result
invariant_of-result c =
    let made = c.in_ok-tables.tables in
    let kept = AreOf-tables (groups_of c.args.groups.now) made.names.items made.patterns.items c.in_ok-tables.ensures
    (refused_none (groups_of c.args.groups.now) c.in_ok-check.ensures).few in
    subst (λ t. AreTables t.names.items t.patterns.items) (sym c.in_ok-tables-2.ensures.ok) kept
