use Rattle.std.proofs.Common.{◌≡◌, ◌+◌, ◌*◌, ◌≤◌, ◌<◌, Some, length, take, drop, reverse}
use Rattle.std.specs.Prelude.{IfSome}
use Rattle.rx_hir.specs.Depth.{depth, greatest_depth}
use Rattle.rx_hir.specs.HirViews.{kind_view}
use Rattle.rx_hir.specs.Normal.{expressions}
use Rattle.rx_order.specs.Strip.{strip, strip_copies, strip_row}
use Rattle.rx_order.proofs.strip.+strip.Given as goal

abbrev pub invariant-strip_copies-loop-min : goal.invariant-strip_copies-loop-min
invariant-strip_copies-loop-min l = record {
  within : l.count ≤ length l.suffix;
  some : 0 < l.count;
  ordered : IfSome l.max (λ m. l.min ≤ m);
  same : strip_copies (strip l.copies.sub.value) l.min l.max l.copies.greedy l.copies.sub.value (take l.count l.suffix)
      ≡ strip_copies (strip l.copies.sub.value) l.copies.min l.copies.max l.copies.greedy l.copies.sub.value l.suffix;
}

abbrev pub decreases-strip_copies-loop-min : goal.decreases-strip_copies-loop-min
decreases-strip_copies-loop-min l = l.min

abbrev pub invariant-strip_row-loop-i : goal.invariant-strip_row-loop-i
invariant-strip_row-loop-i l = record {
  within : l.i ≤ length l.parts;
  count : l.count ≤ length l.suffix;
  so_far : strip_row (expressions (drop l.i l.parts)) l.suffix ≡ Some (reverse l.left.items, take l.count l.suffix);
}

abbrev pub decreases-strip_row-loop-i : goal.decreases-strip_row-loop-i
decreases-strip_row-loop-i l = l.i

abbrev pub decreases-strip : goal.decreases-strip
decreases-strip l = 3 * depth l.hir.now + 2

abbrev pub decreases-strip_kind : goal.decreases-strip_kind
decreases-strip_kind l = 3 * depth (kind_view l.kind.now) + 1

abbrev pub decreases-strip_copies : goal.decreases-strip_copies
decreases-strip_copies l = 3 * depth l.copies.now.sub.value + 3

abbrev pub decreases-strip_row : goal.decreases-strip_row
decreases-strip_row l = 3 * greatest_depth (expressions l.parts.now)
