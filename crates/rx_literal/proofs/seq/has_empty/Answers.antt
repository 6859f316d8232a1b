use Rattle.rx_literal.specs.Literals.{is_empty}
use Rattle.rx_literal.proofs.lemmas.prefixes.WalkedLemmas.{some-here, none-more, none-end}
use Rattle.rx_literal.proofs.seq.has_empty.Goals as goal

pub returns-then-is_empty : goal.returns-then-is_empty
returns-then-is_empty c =
    some-here is_empty c.args.literals.now c.loop-literal.literal-index c.literal-item.result c.is_empty.result c.loop-literal-test.true c.literal-item.is
    c.is_empty.ensures c.if-is_empty.true

pub loop-literal-preserved : goal.loop-literal-preserved
loop-literal-preserved c =
    none-more is_empty c.args.literals.now c.loop-literal.literal-index c.literal-item.result c.is_empty.result c.loop-literal-test.true c.literal-item.is
    c.is_empty.ensures c.if-is_empty.false c.loop-literal.invariant

pub returns : goal.returns
returns c = none-end is_empty c.args.literals.now c.loop-literal.literal-index c.loop-literal-test.false c.loop-literal.invariant
