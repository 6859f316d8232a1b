use Rattle.rx_literal.proofs.lemmas.trimming.SlotLoopLemmas.{Counting}
use Rattle.rx_literal.proofs.slots.count.Given as goal

abbrev pub invariant-loop-slot : goal.invariant-loop-slot
invariant-loop-slot l = Counting l.slots l.counts l.slot-index
