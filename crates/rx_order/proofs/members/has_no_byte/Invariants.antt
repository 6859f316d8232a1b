use Rattle.std.proofs.Common.{◌≡◌, drop}
use Rattle.std.specs.Prelude.{not}
use Rattle.std.specs.List.{list_all}
use Rattle.rx_model.specs.Text.{is_member}
use Rattle.rx_order.proofs.members.has_no_byte.Given as goal

abbrev pub invariant-loop-byte : goal.invariant-loop-byte
invariant-loop-byte l = list_all (λ b. not (is_member l.ranges b)) (drop l.byte-index l.bytes) ≡ list_all (λ b. not (is_member l.ranges b)) l.bytes
