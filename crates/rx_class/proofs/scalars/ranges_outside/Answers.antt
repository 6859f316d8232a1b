use Rattle.std.proofs.Common.{◌∙◌, sym, refl, arith, subst, length, ◌≤◌}
use Rattle.rx_class.specs.Ranges.{next_scalar, AreScalarRanges}
use Rattle.rx_class.specs.Scalars.{previous_scalar, or_past}
use Rattle.rx_class.proofs.OutsideLemmas.{outside-step, outside-last}
use Rattle.rx_class.proofs.ScalarLemmas.{AreScalarRanges-complement}
use Rattle.rx_class.proofs.scalars.ranges_outside.Goals as goal

pub loop-first-preserved : goal.loop-first-preserved
loop-first-preserved c =
    let l = c.loop-first in
    outside-step next_scalar previous_scalar 0x10FFFF c.args.ranges.now l.found.items c.push_before.new.found.items l.first-index (or_past l.low)
    (or_past c.next_scalar-low.result) (0, 0) _ c.loop-first-test.true refl c.next_scalar-low.ensures c.in_ok-push_before.ensures
    ∙ l.invariant

pub returns-clause-value : goal.returns-clause-value
returns-clause-value c =
    let l = c.loop-first in
    let end : length c.args.ranges.now ≤ l.first-index = omega arith in
    c.in_ok-push_from.ensures ∙ sym (outside-last next_scalar previous_scalar 0x10FFFF c.args.ranges.now l.found.items l.first-index (or_past l.low) end)
    ∙ l.invariant

pub returns-clause-fewest : goal.returns-clause-fewest
returns-clause-fewest c = subst AreScalarRanges (sym (returns-clause-value c)) (AreScalarRanges-complement c.args.ranges.now c.requires)
