use Rattle.std.proofs.Common.{◌≡◌, ℕ, List, sym, ap, ◌∙◌, subst, map, true}
use Rattle.std.specs.Prelude.{IfSome}
use Rattle.std.specs.Vec.{vec_items}
use Rattle.rx_model.specs.Expression.{Expression}
use Rattle.rx_order.specs.Inner.{inner_of}
use Rattle.rx_order.specs.Order.{HasRest, IsThen, Begins, InnerIsNoEarlier}
use Rattle.rx_order.specs.Tests.{inner_has_no_earlier}
use Rattle.rx_strategies.proofs.ChosenLemmas.{made-some, inner-found}
use Rattle.rx_strategies.proofs.inner.inner_search.Goals as goal

pub returns-then-inner_has_no_earlier_match : goal.returns-then-inner_has_no_earlier_match
returns-then-inner_has_no_earlier_match c =
    let hs = c.args.exprs.now in
    let i = c.in-Some.inner in
    let ls = map vec_items i.literals.items in
    let of = made-some (λ i. (i.prefix, map vec_items i.literals.items)) c.in_ok-inner.field-0 i (inner_of hs) c.in_ok-inner.ensures.value c.in-Some.is in
    let needles : i.pre ≡ ls = subst (λ o. IfSome o (λ i. i.pre ≡ map vec_items i.literals.items)) c.in-Some.is c.in_ok-inner.ensures.search in
    let same : map vec_items c.deref.result.now ≡ ls = ap (map vec_items) c.deref.ensures.value in
    let test = c.inner_has_no_earlier_match.ensures in
    let yes : inner_has_no_earlier i.prefix ls ≡ true =
    subst (λ (xs : List (List ℕ)). inner_has_no_earlier i.prefix xs ≡ true) same (sym test.value ∙ c.if-inner_has_no_earlier_match.true) in
    let order =
    subst (λ (xs : List (List ℕ)). (h q : Expression) → IsThen h i.prefix q → Begins xs q → InnerIsNoEarlier h i.prefix xs) same
    (test.order c.if-inner_has_no_earlier_match.true) in
    inner-found hs i.prefix ls of
    (λ h one. subst (λ o. IfSome o (λ i. HasRest h i.prefix (map vec_items i.literals.items))) c.in-Some.is (c.in_ok-inner.ensures.rest h one)) yes order
    i.pre needles
