use Rattle.std.proofs.Common.{◌+◌, ◌-◌, ap, sym, ◌∙◌}
use Rattle.rx_literal.specs.Literals.{cross_times}
use Rattle.rx_literal.proofs.lemmas.prefixes.TurnLemmas.{cross_times-done, times-step, times-end}
use Rattle.rx_literal.proofs.repeated.crossed.Goals as goal

pub returns-then-not-has_exact : goal.returns-then-not-has_exact
returns-then-not-has_exact c =
    sym (cross_times-done c.args.side (c.args.count - c.loop-copy._copy) c.loop-copy.seq c.args.body.now (sym c.has_exact.ensures ∙ c.if-not-has_exact.true))
    ∙ c.loop-copy.invariant

pub loop-copy-preserved : goal.loop-copy-preserved
loop-copy-preserved c =
    ap (λ x. cross_times c.args.side (c.args.count - (c.loop-copy._copy + 1)) x c.args.body.now) c.in_ok-seq-2.ensures
    ∙ sym (times-step c.args.side c.args.count c.loop-copy._copy c.loop-copy.seq c.args.body.now c.loop-copy-test.true
    (sym c.has_exact.ensures ∙ c.if-not-has_exact.false))
    ∙ c.loop-copy.invariant

pub returns : goal.returns
returns c = sym (times-end c.args.side c.args.count c.loop-copy._copy c.loop-copy.seq c.args.body.now c.loop-copy-test.false) ∙ c.loop-copy.invariant
