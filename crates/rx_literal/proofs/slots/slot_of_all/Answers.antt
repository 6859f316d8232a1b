use Rattle.std.proofs.Common.{refl, arith}
use Rattle.rx_literal.proofs.lemmas.trimming.SlotLoopLemmas.{byte-more, bytes-end}
use Rattle.rx_literal.proofs.slots.slot_of_all.Goals as goal

pub loop-byte-init : goal.loop-byte-init
loop-byte-init c = (omega arith, refl)

pub loop-byte-preserved : goal.loop-byte-preserved
loop-byte-preserved c = byte-more c.args.bytes.now c.loop-byte.byte-index c.loop-byte.slot c.loop-byte-test.true c.loop-byte.invariant

pub returns-clause-value : goal.returns-clause-value
returns-clause-value c = bytes-end c.args.bytes.now c.loop-byte.byte-index c.loop-byte.slot c.loop-byte-test.false c.loop-byte.invariant.1

pub returns-clause-bound : goal.returns-clause-bound
returns-clause-bound c = c.loop-byte.invariant.0
