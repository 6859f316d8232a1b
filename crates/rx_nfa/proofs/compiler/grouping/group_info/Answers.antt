use Rattle.std.proofs.Common.{◌≡◌, ◌∙◌, ◌++◌, ◌∷◌, [], sym, ap, subst, arith, take, map, get_or}
use Rattle.std.specs.Prelude.{All}
use Rattle.std.proofs.lemmas.List.{take_all, take_more, map_push}
use Rattle.rx_search.specs.GroupInfo.{groups_of, names_of, slot_count, BeginsUnnamed}
use Rattle.rx_hir.specs.Names.{group_names}
use Rattle.rx_nfa.proofs.lemmas.runs.GroupLemmas.{groups-begin, slots-counted}
use Rattle.rx_nfa.proofs.compiler.grouping.group_info.Goals as goal

pub loop-hir-preserved : goal.loop-hir-preserved
loop-hir-preserved c =
    let exprs = c.args.exprs.now in
    let i = c.loop-hir.hir-index in
    let h = c.hir-item.result in
    ap (λ gs. groups_of gs) c.in_ok-push.ensures.items
    ∙ map_push (λ names. names_of names.items) c.loop-hir.groups.items c.in_ok-names.names
    ∙ (λ k. c.loop-hir.invariant k ++ (c.in_ok-names.ensures ∙ ap group_names c.hir-item.is) k ∷ [])
    ∙ sym (map_push group_names (take i exprs) (get_or exprs i h))
    ∙ ap (map group_names) (sym (take_more exprs i h c.loop-hir-test.true))

pub named-requires-clause-each : goal.named-requires-clause-each
named-requires-clause-each c =
    let exprs = c.args.exprs.now in
    let whole : groups_of c.deref.result.now ≡ map group_names c.args.exprs.now = ap (λ gs. groups_of gs) c.deref.ensures.value ∙ c.loop-hir.invariant
    ∙ ap (map group_names) (take_all c.loop-hir.hir-index c.args.exprs.now (omega arith)) in
    subst (All BeginsUnnamed) (sym whole) (groups-begin exprs)

pub named-requires-clause-few : goal.named-requires-clause-few
named-requires-clause-few c =
    let whole : groups_of c.deref.result.now ≡ map group_names c.args.exprs.now = ap (λ gs. groups_of gs) c.deref.ensures.value ∙ c.loop-hir.invariant
    ∙ ap (map group_names) (take_all c.loop-hir.hir-index c.args.exprs.now (omega arith)) in
    let same = ap slot_count whole in
    let counted = slots-counted c.args.exprs.now in
    let few = c.requires.slots in
    omega arith

pub returns : goal.returns
returns c =
    c.in_ok-info.ensures ∙ ap (λ gs. groups_of gs) c.deref.ensures.value ∙ c.loop-hir.invariant
    ∙ ap (map group_names) (take_all c.loop-hir.hir-index c.args.exprs.now (omega arith))
