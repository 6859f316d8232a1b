use Rattle.rx_literal.proofs.lemmas.trimming.SlotLemmas.{counted-all}
use Rattle.rx_literal.proofs.lemmas.trimming.SlotLoopLemmas.{counting-none, counting-more}
use Rattle.rx_literal.proofs.slots.count.Goals as goal

pub loop-slot-init : goal.loop-slot-init
loop-slot-init c = counting-none c.args.slots.now c.args.counts.now c.told-counts c.fits-counts

pub bounds-counts-slot : goal.bounds-counts-slot
bounds-counts-slot c = c.requires c.loop-slot.slot-index 0 c.loop-slot-test.true

pub bounds-counts-slot-in-loop-slot : goal.bounds-counts-slot-in-loop-slot
bounds-counts-slot-in-loop-slot c = c.requires c.loop-slot.slot-index 0 c.loop-slot-test.true

pub loop-slot-preserved : goal.loop-slot-preserved
loop-slot-preserved c =
    let i = c.loop-slot.slot-index in
    counting-more c.args.slots.now c.loop-slot.counts i c.saturating_add.result (c.requires i 0 c.loop-slot-test.true) c.saturating_add.ensures
    c.loop-slot.invariant

pub returns : goal.returns
returns c = counted-all c.args.slots.now c.loop-slot.counts c.loop-slot.slot-index c.loop-slot-test.false c.loop-slot.invariant.counted
