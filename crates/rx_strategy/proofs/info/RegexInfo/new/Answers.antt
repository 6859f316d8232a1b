use Rattle.std.proofs.Common.{◌≡◌, ◌+◌, ◌++◌, ◌∷◌, [], List, take, sym, ap, ◌∙◌, subst}
use Rattle.std.proofs.lemmas.List.{take_more, take_all}
use Rattle.rx_model.specs.Expression.{Expression}
use Rattle.rx_hir.specs.PropertiesViews.{AreOfEach}
use Rattle.rx_strategy.proofs.InfoLemmas.{AreOfEach-more}
use Rattle.rx_strategy.proofs.info.RegexInfo.new.Goals as goal

pub loop-hir-preserved : goal.loop-hir-preserved
loop-hir-preserved c =
    let hs : List Expression = c.args.exprs.now in
    let k = c.loop-hir.hir-index in
    let h : Expression = c.hir-item.result in
    let seen : take (k + 1) hs ≡ take k hs ++ h ∷ [] = take_more hs k h c.loop-hir-test.true ∙ ap (λ x. take k hs ++ x ∷ []) (sym c.hir-item.is) in
    let more = AreOfEach-more (take k hs) c.loop-hir.each.items h c.properties.result.now c.loop-hir.invariant c.properties.ensures in
    subst (λ xs. AreOfEach xs c.push.new.self.items) (sym seen) (subst (AreOfEach (take k hs ++ h ∷ [])) (sym c.in_ok-push.ensures.items) more)

pub returns : goal.returns
returns c =
    let hs : List Expression = c.args.exprs.now in
    let whole : take c.loop-hir.hir-index hs ≡ hs = take_all c.loop-hir.hir-index hs c.loop-hir-test.false in
    c.union.ensures hs
    (subst (λ ps. AreOfEach hs ps) (sym c.deref.ensures.value) (subst (λ xs. AreOfEach xs c.loop-hir.each.items) whole c.loop-hir.invariant))
