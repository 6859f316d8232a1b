use Rattle.std.proofs.Common.{ℕ, map, take}
use Rattle.rx_literal.specs.Literals.{Literal}
use Rattle.rx_literal.specs.declared.order.Order.TheVariants.{Bytes as by_bytes}
use Rattle.rx_literal.specs.Order.{InOrder}
use Rattle.rx_literal.proofs.lemmas.trimming.AlikeLemmas.{Alike}
use Rattle.rx_literal.proofs.trim.sorted.Given as goal

abbrev pub invariant-loop-pair : goal.invariant-loop-pair
invariant-loop-pair l = record {
  order : InOrder by_bytes l.found.items;
  alike : Alike l.found.items (take l.pair-index (map (λ (p : ℕ × Literal). p.1) l.pair-items));
}
