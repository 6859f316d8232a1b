use Rattle.std.proofs.Common.{◌≤◌, map, sym, arith, subst}
use Rattle.rx_search.specs.Limits.{slot_limit}
use Rattle.rx_search.specs.GroupInfo.{unnamed_groups, slot_count}
use Rattle.rx_search.proofs.GroupLemmas.{AreTables, AreOf-tables, group_count-unnamed}
use Rattle.rx_search.proofs.group_info.GroupInfo.unnamed.Goals as goal

pub invariant_of-result : goal.invariant_of-result
invariant_of-result c =
    let made = c.in_ok-tables.tables in
    let info = map unnamed_groups c.args.group_lens.now in
    let few : slot_count info ≤ slot_limit = omega (arith, group_count-unnamed c.args.group_lens.now, c.requires.few) in
    let kept = AreOf-tables info made.names.items made.patterns.items c.in_ok-tables.ensures few in
    subst (λ t. AreTables t.names.items t.patterns.items) (sym c.in_ok-tables-2.ensures.ok) kept
