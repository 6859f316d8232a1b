use Rattle.std.proofs.Common.{◌≡◌, ◌∙◌, ap, sym, subst, map, get_or, Some}
use Rattle.std.specs.Option.{option_map}
use Rattle.std.specs.Vec.{vec_items}
use Rattle.std.proofs.lemmas.Result.{IfOk-weaker}
use Rattle.rx_model.specs.Expression.{AreOrdered}
use Rattle.rx_hir.proofs.SoundLemmas.{IsSound-ordered}
use Rattle.rx_order.specs.Inner.{top_parts}
use Rattle.rx_order.proofs.lemmas.RestLemmas.{made-rest}
use Rattle.rx_order.proofs.inner.InnerPrefilter.new.Goals as goal

pub returns-in-Some-clause-rest : goal.returns-in-Some-clause-rest
returns-in-Some-clause-rest c = λ h one.
    let x = c.index-hirs-0.result in
    let is : x ≡ h = c.index-hirs-0.is ∙ ap (λ hs. get_or hs 0 x) one in
    let y = c.index-hirs-0-2.result in
    let is' : y ≡ h = c.index-hirs-0-2.is ∙ ap (λ hs. get_or hs 0 y) one in
    let ordered = subst AreOrdered is (IsSound-ordered x c.kind-kind.ensures.sound) in
    let tops : top_parts h ≡ Some c.in-Some.parts.items = ap top_parts (sym is') ∙ sym c.in_ok-parts.ensures ∙ ap (option_map vec_items) c.in-Some.is in
    IfOk-weaker c.in_parts.result _ _ (λ made e. made-rest (λ i. (i.prefix, map vec_items i.literals.items)) h ordered c.in-Some.parts.items tops made e)
    c.in_parts.ensures.value
