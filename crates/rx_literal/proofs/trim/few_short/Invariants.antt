use Rattle.std.proofs.Common.{◌≡◌, ◌≤◌, [], ◌++◌, map, length, drop}
use Rattle.rx_literal.specs.Literals.{cut}
use Rattle.rx_literal.specs.declared.side.Side.TheVariants.{Front as front}
use Rattle.rx_literal.specs.declared.order.Order.TheVariants.{Branches as by_branches}
use Rattle.rx_literal.specs.Order.{InOrder}
use Rattle.rx_literal.specs.Trim.{preferred}
use Rattle.rx_literal.proofs.trim.few_short.Given as goal

abbrev pub invariant-loop-literal : goal.invariant-loop-literal
invariant-loop-literal l = record {
  so_far : l.kept.items ++ preferred l.least.items (map (cut front 3) (drop l.literal-index l.literals)) ≡ preferred [] (map (cut front 3) l.literals);
  parted : InOrder by_branches l.least.items;
  few : length l.kept.items ≤ 64;
}
