use Rattle.std.proofs.Common.{◌≤◌, ◌<◌, ℕ, ◌+◌, length, sym, ap, ◌∙◌, subst, arith}
use Rattle.rx_syntax.specs.Patterns.{all_translated, RefusesAll, error_at}
use Rattle.rx_syntax.specs.Translation.{translated}
use Rattle.rx_syntax.specs.Weight.{AreWeightsOf}
use Rattle.rx_syntax.specs.declared.patterns.PatternsError.{PatternsError}
use Rattle.rx_syntax.proofs.lemmas.patterns.PatternsLemmas.{Gathers-fails, translate_each, translate_each-at, length-translate_each}
use Rattle.rx_syntax.proofs.lemmas.weights.WeighLemmas.{all-more, all-end}
use Rattle.rx_syntax.proofs.weight.list.weigh_all.Goals as goal

pub returns-in-Err-clause-value : goal.returns-in-Err-clause-value
unfolding all_translated
returns-in-Err-clause-value c =
    let ss = c.args.asts.now in
    let k = c.loop-ast.ast-index in
    let rs = translate_each c.args.config.now ss in
    let so = c.loop-ast.invariant.weighed in
    let lt : k < length rs = omega (arith, length-translate_each c.args.config.now ss, c.loop-ast-test.true) in
    let fails =
    Gathers-fails rs k _ _ c.in-Err.error so.gathers lt (translate_each-at c.args.config.now ss k c.ast-item.result c.loop-ast-test.true c.ast-item.is)
    c.in-Err.ensures in
    subst (λ (e : PatternsError). RefusesAll e (all_translated c.args.config.now ss))
    (sym (c.refused.ensures ∙ ap (λ n. error_at n c.in-Err.error) c.loop-ast.invariant.counted)) fails

pub loop-ast-preserved : goal.loop-ast-preserved
loop-ast-preserved c =
    let config = c.args.config.now in
    let ss = c.args.asts.now in
    let k = c.loop-ast.ast-index in
    let rs = translate_each config ss in
    let lt : k < length rs = omega (arith, length-translate_each config ss, c.loop-ast-test.true) in
    record {
      counted = ap (λ n. n + 1) c.loop-ast.invariant.counted;
      weighed =
          all-more rs k c.loop-ast.sum.halves c.loop-ast.sum.states c.with-sum.result.halves c.with-sum.result.states (translated config c.ast-item.result)
          c.in-Ok.weight
          c.loop-ast.invariant.weighed lt (translate_each-at config ss k c.ast-item.result c.loop-ast-test.true c.ast-item.is) c.in-Ok.ensures
          c.with-sum.ensures.halves c.with-sum.ensures.states;
    }

pub returns-clause-value : goal.returns-clause-value
unfolding all_translated
returns-clause-value c =
    let config = c.args.config.now in
    let ss = c.args.asts.now in
    let rs = translate_each config ss in
    let k = c.loop-ast.ast-index in
    let count = length-translate_each config ss in
    let le : length rs ≤ k = omega (arith, count, c.loop-ast-test.false) in
    let ge : k ≤ length rs = omega (arith, count, c.loop-ast.auto.ast-index-end) in
    subst (λ (n : ℕ). AreWeightsOf (all_translated config ss) n c.weights.result) count
    (all-end rs k c.loop-ast.sum.halves c.loop-ast.sum.states c.weights.result c.loop-ast.invariant.weighed le ge c.weights.ensures.slots
    c.weights.ensures.states)
