use Rattle.rx_literal.specs.Literals.{is_exact}
use Rattle.rx_literal.proofs.lemmas.prefixes.WalkedLemmas.{some-here, none-more, none-end}
use Rattle.rx_literal.proofs.seq.has_exact.Goals as goal

pub returns-then-is_exact : goal.returns-then-is_exact
returns-then-is_exact c =
    some-here is_exact c.args.literals.now c.loop-literal.literal-index c.literal-item.result c.is_exact.result c.loop-literal-test.true c.literal-item.is
    c.is_exact.ensures c.if-is_exact.true

pub loop-literal-preserved : goal.loop-literal-preserved
loop-literal-preserved c =
    none-more is_exact c.args.literals.now c.loop-literal.literal-index c.literal-item.result c.is_exact.result c.loop-literal-test.true c.literal-item.is
    c.is_exact.ensures c.if-is_exact.false c.loop-literal.invariant

pub returns : goal.returns
returns c = none-end is_exact c.args.literals.now c.loop-literal.literal-index c.loop-literal-test.false c.loop-literal.invariant
