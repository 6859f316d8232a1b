use Rattle.std.proofs.Common.{◌≡◌, true, take}
use Rattle.std.specs.List.{list_all}
use Rattle.rx_literal.specs.Slots.{has_bytes}
use Rattle.rx_literal.proofs.slots.bytes_to_look_at.Given as goal

abbrev pub invariant-loop-literal : goal.invariant-loop-literal
invariant-loop-literal l = list_all (has_bytes l.count) (take l.literal-index l.literals) ≡ true
