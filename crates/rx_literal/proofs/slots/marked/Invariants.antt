use Rattle.std.proofs.Common.{◌≡◌, map, take}
use Rattle.std.specs.Prelude.{nat_lt, slice_index}
use Rattle.rx_literal.proofs.slots.marked.Given as goal

abbrev pub invariant-loop-slot : goal.invariant-loop-slot
invariant-loop-slot l = l.marks.items ≡ map (λ s. nat_lt (slice_index l.counts s) 2) (take l.slot-index l.slots)
