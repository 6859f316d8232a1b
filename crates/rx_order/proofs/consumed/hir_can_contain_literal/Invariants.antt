use Rattle.std.proofs.Common.{◌≡◌, drop}
use Rattle.rx_order.specs.Tests.{cannot_consume_all}
use Rattle.rx_order.proofs.consumed.hir_can_contain_literal.Given as goal

abbrev pub invariant-loop-byte : goal.invariant-loop-byte
invariant-loop-byte l = cannot_consume_all l.hir (drop l.byte-index l.literal) ≡ cannot_consume_all l.hir l.literal
