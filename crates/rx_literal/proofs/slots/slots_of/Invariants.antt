use Rattle.std.proofs.Common.{◌≡◌, ◌<◌, All, map, take}
use Rattle.rx_literal.specs.Slots.{slot}
use Rattle.rx_literal.proofs.slots.slots_of.Given as goal

abbrev pub invariant-loop-literal : goal.invariant-loop-literal
invariant-loop-literal l = (l.slots.items ≡ map (slot l.fn.count) (take l.literal-index l.literals)) × All (λ s. s < 4096) l.slots.items
