use Rattle.std.proofs.Common.{◌≤◌, ◌<◌, Bor, List, ℕ, ◌+◌, map, length, sym, ap, ◌∙◌, subst, arith}
use Rattle.rx_syntax.specs.Patterns.{each_read, RefusesAll, error_at}
use Rattle.rx_syntax.specs.Weight.{AreWeightsOf}
use Rattle.rx_syntax.specs.declared.patterns.PatternsError.{PatternsError}
use Rattle.rx_syntax.proofs.lemmas.patterns.PatternsLemmas.{Gathers-fails, each_answer, each_answer-at, length-each_answer, expression_of}
use Rattle.rx_syntax.proofs.lemmas.weights.WeighLemmas.{all-more, all-end}
use Rattle.rx_syntax.proofs.weight.list.weigh_each.Goals as goal

pub returns-in-Err-clause-value : goal.returns-in-Err-clause-value
unfolding each_read
returns-in-Err-clause-value c =
    let ps = c.args.patterns.now in
    let k = c.loop-pattern.pattern-index in
    let f = expression_of c.args.config.now in
    let rs = each_answer f ps in
    let so = c.loop-pattern.invariant.weighed in
    let lt : k < length rs = omega (arith, length-each_answer f ps, c.loop-pattern-test.true) in
    let fails = Gathers-fails rs k _ _ c.in-Err.cause so.gathers lt (each_answer-at f ps k _ c.loop-pattern-test.true) c.in-Err.ensures in
    subst (λ (e : PatternsError). RefusesAll e (each_read c.args.config.now (map (λ (p : Bor (List ℕ)). p.now) ps)))
    (sym (c.refused.ensures ∙ ap (λ n. error_at n c.in-Err.cause) c.loop-pattern.invariant.counted)) fails

pub loop-pattern-preserved : goal.loop-pattern-preserved
loop-pattern-preserved c =
    let ps = c.args.patterns.now in
    let k = c.loop-pattern.pattern-index in
    let f = expression_of c.args.config.now in
    let rs = each_answer f ps in
    let lt : k < length rs = omega (arith, length-each_answer f ps, c.loop-pattern-test.true) in
    record {
      counted = ap (λ n. n + 1) c.loop-pattern.invariant.counted;
      weighed =
          all-more rs k c.loop-pattern.sum.halves c.loop-pattern.sum.states c.with-sum.result.halves c.with-sum.result.states _ c.in-Ok.weight
          c.loop-pattern.invariant.weighed lt (each_answer-at f ps k _ c.loop-pattern-test.true) c.in-Ok.ensures c.with-sum.ensures.halves
          c.with-sum.ensures.states;
    }

pub returns-clause-value : goal.returns-clause-value
unfolding each_read
returns-clause-value c =
    let ps = c.args.patterns.now in
    let f = expression_of c.args.config.now in
    let rs = each_answer f ps in
    let k = c.loop-pattern.pattern-index in
    let count = length-each_answer f ps in
    let le : length rs ≤ k = omega (arith, count, c.loop-pattern-test.false) in
    let ge : k ≤ length rs = omega (arith, count, c.loop-pattern.auto.pattern-index-end) in
    subst (λ (n : ℕ). AreWeightsOf (each_read c.args.config.now (map (λ (p : Bor (List ℕ)). p.now) ps)) n c.weights.result) count
    (all-end rs k c.loop-pattern.sum.halves c.loop-pattern.sum.states c.weights.result c.loop-pattern.invariant.weighed le ge c.weights.ensures.slots
    c.weights.ensures.states)
