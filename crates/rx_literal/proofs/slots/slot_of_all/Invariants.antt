use Rattle.std.proofs.Common.{◌≡◌, ◌<◌, drop}
use Rattle.rx_literal.specs.Slots.{slot_of}
use Rattle.rx_literal.proofs.slots.slot_of_all.Given as goal

abbrev pub invariant-loop-byte : goal.invariant-loop-byte
invariant-loop-byte l = (l.slot < 4096) × (slot_of l.slot (drop l.byte-index l.bytes) ≡ slot_of 0 l.bytes)
