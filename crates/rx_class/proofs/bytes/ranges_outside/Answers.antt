use Rattle.std.proofs.Common.{◌∙◌, sym, refl, arith, subst, length, ◌≤◌}
use Rattle.rx_class.specs.Bytes.{previous_byte, or_past_byte}
use Rattle.rx_class.specs.Ranges.{next_byte, AreByteRanges}
use Rattle.rx_class.proofs.ByteLemmas.{AreByteRanges-complement}
use Rattle.rx_class.proofs.OutsideLemmas.{outside-step, outside-last}
use Rattle.rx_class.proofs.bytes.ranges_outside.Goals as goal

pub loop-first-preserved : goal.loop-first-preserved
loop-first-preserved c =
    let l = c.loop-first in
    outside-step next_byte previous_byte 0xFF c.args.ranges.now l.found.items c.push_before.new.found.items l.first-index (or_past_byte l.low)
    (or_past_byte c.next_byte-low.result) (0, 0) _ c.loop-first-test.true refl c.next_byte-low.ensures c.in_ok-push_before.ensures
    ∙ l.invariant

pub returns-clause-value : goal.returns-clause-value
returns-clause-value c =
    let l = c.loop-first in
    let end : length c.args.ranges.now ≤ l.first-index = omega arith in
    c.in_ok-push_from.ensures ∙ sym (outside-last next_byte previous_byte 0xFF c.args.ranges.now l.found.items l.first-index (or_past_byte l.low) end)
    ∙ l.invariant

pub returns-clause-fewest : goal.returns-clause-fewest
returns-clause-fewest c = subst AreByteRanges (sym (returns-clause-value c)) (AreByteRanges-complement c.args.ranges.now c.requires)
