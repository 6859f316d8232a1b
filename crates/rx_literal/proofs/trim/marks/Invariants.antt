use Rattle.std.proofs.Common.{◌≡◌, [], ◌++◌, true, length, take, drop}
use Rattle.rx_literal.specs.Literals.{Literal}
use Rattle.rx_literal.specs.declared.order.Order.TheVariants.{Branches as by_branches}
use Rattle.rx_literal.specs.Order.{InOrder}
use Rattle.rx_literal.specs.Trim.{has_prefix_in, preferred, picked}
use Rattle.rx_literal.proofs.trim.marks.Given as goal

abbrev pub invariant-loop-i : goal.invariant-loop-i
invariant-loop-i l = record {
  so_far : picked l.literals l.marks.items ++ preferred l.least.items (drop l.i l.literals) ≡ preferred [] l.literals;
  long : length l.marks.items ≡ l.i;
  parted : InOrder by_branches l.least.items;
  before : (x : Literal) → has_prefix_in l.least.items x ≡ true → has_prefix_in (take l.i l.literals) x ≡ true;
}
