use Rattle.std.proofs.Common.{◌≡◌, ◌<◌, List, [], ◌∷◌, ◌++◌, None, take, drop, length, get_or, ap, sym, ◌∙◌, arith, subst}
use Rattle.std.proofs.lemmas.List.{take_more}
use Rattle.std.proofs.lemmas.List.Elements.{All-get_or}
use Rattle.rx_search.specs.GroupInfo.{groups_of, names_of, BeginsUnnamed}
use Rattle.rx_search.specs.GroupTables.{AreOf}
use Rattle.rx_search.proofs.FaultLemmas.{group_at, length-groups_of}
use Rattle.rx_search.proofs.GroupLemmas.{AreOf-push}
use Rattle.rx_search.proofs.group_info.named_tables.Goals as goal

pub loop-pattern-preserved : goal.loop-pattern-preserved
loop-pattern-preserved c =
    let gs = groups_of c.args.groups.now in
    let i = c.loop-pattern.pattern-index in
    let names = names_of c.as_slice.result.now in
    let new = c.push_explicit.new.names.items in
    let below : i < length gs = omega (arith, c.loop-pattern-test.true, length-groups_of c.args.groups.now) in
    let item : get_or gs i [] ≡ names =
    group_at c.args.groups.now i c.pattern-item.result c.loop-pattern-test.true c.pattern-item.is ∙ ap names_of (sym c.as_slice.ensures.value) in
    let unnamed : get_or gs i [] ≡ None ∷ drop 1 names = All-get_or BeginsUnnamed gs i [] below c.requires ∙ ap (λ (g : List _). None ∷ drop 1 g) item in
    let pushed = AreOf-push (take i gs) c.loop-pattern.names.items new c.loop-pattern.patterns.items (get_or gs i [])
    (drop 1 names) c.len-start.result c.len-end.result c.loop-pattern.invariant c.in_ok-push_explicit.ensures unnamed
    (omega (arith, c.len-start.ensures, c.loop-pattern.names.ok.0)) (omega (arith, c.len-end.ensures, c.push_explicit.new.names.ok.0)) in
    subst (λ info. AreOf info new c.push.new.self.items) (sym (take_more gs i [] below))
    (subst (λ rows. AreOf (take i gs ++ get_or gs i [] ∷ []) new rows) (sym c.in_ok-push.ensures.items) pushed)
