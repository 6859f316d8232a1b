use Rattle.std.proofs.Common.{◌∙◌, ap, sym, map, length, ◌<◌, ◌≤◌, arith}
use Rattle.std.specs.Option.{option_map}
use Rattle.std.specs.Vec.{vec_items}
use Rattle.std.proofs.lemmas.Result.{IfOk-weaker}
use Rattle.rx_order.proofs.lemmas.RestLemmas.{first-here, first-next, inner-here, inner-past}
use Rattle.rx_order.proofs.inner.in_parts.Goals as goal

pub returns-in-Some-clause-value : goal.returns-in-Some-clause-value
returns-in-Some-clause-value c =
    let parts = c.args.parts.items in
    let i = c.loop-i.i in
    let h = c.index.result.now in
    let lt : i < length parts = omega (arith, c.args.parts.ok.0, c.loop-i-test.true) in
    let ls = map vec_items c.in-Some.found.literals.items in
    let some = sym (ap (option_map (λ f. map vec_items f.literals.items)) c.in-Some.is) ∙ c.in_ok-found.ensures.value in
    let e = inner-here parts i ls c.loop-i.invariant.so_far (first-here parts i h lt c.index.ensures ls some) in
    IfOk-weaker c.at_part.result _ _ (λ made p. p ∙ e) c.at_part.ensures.value

pub loop-i-preserved : goal.loop-i-preserved
loop-i-preserved c =
    let parts = c.args.parts.items in
    let i = c.loop-i.i in
    let h = c.index.result.now in
    let lt : i < length parts = omega (arith, c.args.parts.ok.0, c.loop-i-test.true) in
    let none = sym (ap (option_map (λ f. map vec_items f.literals.items)) c.in_default.is) ∙ c.in_ok-found.ensures.value in
    record {
      past = omega (arith, c.loop-i.invariant.past);
      so_far = first-next parts i h lt c.index.ensures none ∙ c.loop-i.invariant.so_far;
    }

pub returns-clause-value : goal.returns-clause-value
returns-clause-value c =
    let over : length c.args.parts.items ≤ c.loop-i.i = omega (arith, c.args.parts.ok.0, c.loop-i-test.false) in
    inner-past c.args.parts.items c.loop-i.i c.loop-i.invariant.so_far over
