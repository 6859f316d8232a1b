use Rattle.std.proofs.Common.{◌≡◌, ◌≤◌, ◌<◌, length, sym, ap, ◌∙◌, subst, arith}
use Rattle.rx_syntax.specs.Patterns.{all_translated, RefusesAll, IsWithin, error_at}
use Rattle.rx_syntax.specs.declared.patterns.PatternsError.{PatternsError}
use Rattle.rx_syntax.proofs.lemmas.patterns.PatternsLemmas.{Gathers-begun, Gathers-more, Gathers-over, Gathers-fails, error_at-within, translate_each, translate_each-at, length-translate_each}
use Rattle.rx_syntax.proofs.patterns.translate_all.Goals as goal

pub loop-ast-init : goal.loop-ast-init
loop-ast-init c = Gathers-begun _ _ c.new-exprs.ensures.items

pub returns-in-Err-clause-value : goal.returns-in-Err-clause-value
unfolding all_translated
returns-in-Err-clause-value c =
    let ss = c.args.asts.now in
    let k = c.loop-ast.ast-index in
    let rs = translate_each c.args.config.now ss in
    let count : c.len.result ≡ k = omega (arith, c.len.ensures, c.loop-ast.exprs.ok.0, c.loop-ast.invariant.count) in
    let lt : k < length rs = omega (arith, length-translate_each c.args.config.now ss, c.loop-ast-test.true) in
    let fails =
    Gathers-fails rs k _ _ c.in-Err.error c.loop-ast.invariant lt
    (translate_each-at c.args.config.now ss k c.ast-item.result c.loop-ast-test.true c.ast-item.is) c.in-Err.ensures in
    subst (λ (e : PatternsError). RefusesAll e (all_translated c.args.config.now ss)) (sym (c.refused.ensures ∙ ap (λ n. error_at n c.in-Err.error) count))
    fails

pub returns-in-Err-clause-within : goal.returns-in-Err-clause-within
returns-in-Err-clause-within c =
    let lt : c.len.result < length c.args.asts.now = omega (arith, c.len.ensures, c.loop-ast.exprs.ok.0, c.loop-ast.invariant.count, c.loop-ast-test.true) in
    subst (λ (e : PatternsError). IsWithin e (length c.args.asts.now)) (sym c.refused.ensures) (error_at-within c.len.result _ c.in-Err.error lt)

pub loop-ast-preserved : goal.loop-ast-preserved
loop-ast-preserved c =
    let ss = c.args.asts.now in
    let k = c.loop-ast.ast-index in
    let lt : k < length (translate_each c.args.config.now ss) = omega (arith, length-translate_each c.args.config.now ss, c.loop-ast-test.true) in
    Gathers-more _ k _ _ _ _ c.loop-ast.invariant lt (translate_each-at c.args.config.now ss k c.ast-item.result c.loop-ast-test.true c.ast-item.is)
    c.in-Ok.ensures c.in_ok-push-in-Ok.ensures.items

pub returns-clause-value : goal.returns-clause-value
unfolding all_translated
returns-clause-value c =
    let le : length (translate_each c.args.config.now c.args.asts.now) ≤ c.loop-ast.ast-index =
    omega (arith, length-translate_each c.args.config.now c.args.asts.now, c.loop-ast-test.false) in
    Gathers-over _ _ _ c.loop-ast.invariant le

pub returns-clause-count : goal.returns-clause-count
returns-clause-count c = omega (arith, c.loop-ast.invariant.count, c.loop-ast-test.false, c.loop-ast.auto)
