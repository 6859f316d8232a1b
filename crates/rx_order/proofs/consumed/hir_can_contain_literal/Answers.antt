use Rattle.std.proofs.Common.{not, ap, sym, ◌∙◌}
use Rattle.rx_order.specs.Tests.{can_consume}
use Rattle.rx_order.proofs.lemmas.LoopLemmas.{any-found, any-next, any-end}
use Rattle.rx_order.proofs.consumed.hir_can_contain_literal.Goals as goal

pub returns-then-not-can_consume : goal.returns-then-not-can_consume
returns-then-not-can_consume c =
    ap not (any-found (λ b. not (can_consume b c.args.hir.now)) c.args.literal.now c.loop-byte.byte-index 0 c.loop-byte-test.true
    (ap not (sym c.can_consume.ensures ∙ c.if-not-can_consume.true)) c.loop-byte.invariant)

pub loop-byte-preserved : goal.loop-byte-preserved
loop-byte-preserved c =
    any-next (λ b. not (can_consume b c.args.hir.now)) c.args.literal.now c.loop-byte.byte-index 0 c.loop-byte-test.true
    (ap not (sym c.can_consume.ensures ∙ c.if-not-can_consume.false)) c.loop-byte.invariant

pub returns : goal.returns
returns c = ap not (any-end (λ b. not (can_consume b c.args.hir.now)) c.args.literal.now c.loop-byte.byte-index c.loop-byte-test.false c.loop-byte.invariant)
