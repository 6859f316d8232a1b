use Rattle.std.proofs.Common.{sym, ◌∙◌}
use Rattle.rx_order.specs.Tests.{is_clear}
use Rattle.rx_order.proofs.lemmas.LoopLemmas.{all-failed, all-next, all-end}
use Rattle.rx_order.proofs.members.scalars_are_disjoint.Goals as goal

pub returns-then-not-is_clear_of_scalars : goal.returns-then-not-is_clear_of_scalars
returns-then-not-is_clear_of_scalars c =
    all-failed (is_clear c.args.ranges.now) c.args.others.now c.loop-low.low-index (0, 0) c.loop-low-test.true
    (sym c.is_clear_of_scalars.ensures ∙ c.if-not-is_clear_of_scalars.true) c.loop-low.invariant

pub loop-low-preserved : goal.loop-low-preserved
loop-low-preserved c =
    all-next (is_clear c.args.ranges.now) c.args.others.now c.loop-low.low-index (0, 0) c.loop-low-test.true
    (sym c.is_clear_of_scalars.ensures ∙ c.if-not-is_clear_of_scalars.false) c.loop-low.invariant

pub returns : goal.returns
returns c = all-end (is_clear c.args.ranges.now) c.args.others.now c.loop-low.low-index c.loop-low-test.false c.loop-low.invariant
