use Rattle.std.proofs.Common.{not, ap, sym, ◌∙◌}
use Rattle.rx_model.specs.Text.{is_member}
use Rattle.rx_order.proofs.lemmas.LoopLemmas.{all-failed, all-next, all-end}
use Rattle.rx_order.proofs.members.has_no_byte.Goals as goal

pub returns-then-has_byte : goal.returns-then-has_byte
returns-then-has_byte c =
    all-failed (λ b. not (is_member c.args.ranges.now b)) c.args.bytes.now c.loop-byte.byte-index 0 c.loop-byte-test.true
    (ap not (sym c.has_byte.ensures ∙ c.if-has_byte.true))
    c.loop-byte.invariant

pub loop-byte-preserved : goal.loop-byte-preserved
loop-byte-preserved c =
    all-next (λ b. not (is_member c.args.ranges.now b)) c.args.bytes.now c.loop-byte.byte-index 0 c.loop-byte-test.true
    (ap not (sym c.has_byte.ensures ∙ c.if-has_byte.false))
    c.loop-byte.invariant

pub returns : goal.returns
returns c = all-end (λ b. not (is_member c.args.ranges.now b)) c.args.bytes.now c.loop-byte.byte-index c.loop-byte-test.false c.loop-byte.invariant
