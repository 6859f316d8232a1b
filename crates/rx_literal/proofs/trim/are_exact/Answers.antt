use Rattle.std.proofs.Common.{ap, sym, ◌∙◌}
use Rattle.rx_literal.specs.Literals.{is_exact}
use Rattle.rx_literal.proofs.lemmas.prefixes.WalkedLemmas.{one-fails, all-more, all-end}
use Rattle.rx_literal.proofs.trim.are_exact.Goals as goal

pub returns-then-not-is_exact : goal.returns-then-not-is_exact
returns-then-not-is_exact c =
    one-fails is_exact c.args.literals.now c.loop-literal.literal-index c.literal-item.result c.loop-literal-test.true
    (ap is_exact (sym c.literal-item.is) ∙ sym c.is_exact.ensures ∙ c.if-not-is_exact.true)

pub loop-literal-preserved : goal.loop-literal-preserved
loop-literal-preserved c =
    all-more is_exact c.args.literals.now c.loop-literal.literal-index c.literal-item.result c.loop-literal-test.true
    (ap is_exact (sym c.literal-item.is) ∙ sym c.is_exact.ensures ∙ c.if-not-is_exact.false) c.loop-literal.invariant

pub returns : goal.returns
returns c = all-end is_exact c.args.literals.now c.loop-literal.literal-index c.loop-literal-test.false c.loop-literal.invariant
