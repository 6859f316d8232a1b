use Rattle.std.proofs.Common.{◌≡◌, drop}
use Rattle.std.specs.Prelude.{nat_eq}
use Rattle.std.specs.List.{list_any}
use Rattle.rx_order.proofs.consumed.has_byte.Given as goal

abbrev pub invariant-loop-one : goal.invariant-loop-one
invariant-loop-one l = list_any (nat_eq l.byte) (drop l.one-index l.bytes) ≡ list_any (nat_eq l.byte) l.bytes
