use Rattle.std.proofs.Common.{◌≡◌, ℕ, List, Bor, map, ◌≤◌, ◌<◌, length, sym, ap, ◌∙◌, subst, arith}
use Rattle.rx_syntax.specs.Patterns.{all_syntaxes, RefusesAll, IsWithin, error_at}
use Rattle.rx_syntax.specs.declared.patterns.PatternsError.{PatternsError}
use Rattle.rx_syntax.proofs.lemmas.patterns.PatternsLemmas.{Gathers-begun, Gathers-more, Gathers-over, Gathers-fails, error_at-within, each_answer, each_answer-at, length-each_answer, syntax_of}
use Rattle.rx_syntax.proofs.patterns.read_all.Goals as goal

pub loop-pattern-init : goal.loop-pattern-init
loop-pattern-init c = Gathers-begun _ _ c.new-asts.ensures.items

pub returns-in-Err-clause-value : goal.returns-in-Err-clause-value
unfolding all_syntaxes
returns-in-Err-clause-value c =
    let ps = c.args.patterns.now in
    let k = c.loop-pattern.pattern-index in
    let rs = each_answer (syntax_of c.args.config.now) ps in
    let count : c.len.result ≡ k = omega (arith, c.len.ensures, c.loop-pattern.asts.ok.0, c.loop-pattern.invariant.count) in
    let lt : k < length rs = omega (arith, length-each_answer (syntax_of c.args.config.now) ps, c.loop-pattern-test.true) in
    let fails =
    Gathers-fails rs k _ _ c.in-Err.error c.loop-pattern.invariant lt (each_answer-at (syntax_of c.args.config.now) ps k _ c.loop-pattern-test.true)
    c.in-Err.ensures in
    subst (λ (e : PatternsError). RefusesAll e (all_syntaxes c.args.config.now (map (λ (p : Bor (List ℕ)). p.now) ps)))
    (sym (c.refused.ensures ∙ ap (λ n. error_at n c.in-Err.error) count)) fails

pub returns-in-Err-clause-within : goal.returns-in-Err-clause-within
returns-in-Err-clause-within c =
    let lt : c.len.result < length c.args.patterns.now =
    omega (arith, c.len.ensures, c.loop-pattern.asts.ok.0, c.loop-pattern.invariant.count, c.loop-pattern-test.true) in
    subst (λ (e : PatternsError). IsWithin e (length c.args.patterns.now)) (sym c.refused.ensures) (error_at-within c.len.result _ c.in-Err.error lt)

pub loop-pattern-preserved : goal.loop-pattern-preserved
loop-pattern-preserved c =
    let ps = c.args.patterns.now in
    let k = c.loop-pattern.pattern-index in
    let lt : k < length (each_answer (syntax_of c.args.config.now) ps) =
    omega (arith, length-each_answer (syntax_of c.args.config.now) ps, c.loop-pattern-test.true) in
    Gathers-more _ k _ _ _ _ c.loop-pattern.invariant lt (each_answer-at (syntax_of c.args.config.now) ps k _ c.loop-pattern-test.true) c.in-Ok.ensures
    c.in_ok-push-in-Ok.ensures.items

pub returns-clause-value : goal.returns-clause-value
unfolding all_syntaxes
returns-clause-value c =
    let le : length (each_answer (syntax_of c.args.config.now) c.args.patterns.now) ≤ c.loop-pattern.pattern-index =
    omega (arith, length-each_answer (syntax_of c.args.config.now) c.args.patterns.now, c.loop-pattern-test.false) in
    Gathers-over _ _ _ c.loop-pattern.invariant le

pub returns-clause-count : goal.returns-clause-count
returns-clause-count c = omega (arith, c.loop-pattern.invariant.count, c.loop-pattern-test.false, c.loop-pattern.auto)
