use Rattle.std.proofs.Common.{◌≡◌, ◌+◌, ◌*◌, ◌++◌, drop}
use Rattle.rx_hir.specs.Depth.{depth, greatest_depth}
use Rattle.rx_hir.specs.Normal.{expressions}
use Rattle.rx_order.specs.Inner.{all_uncaptured}
use Rattle.rx_order.proofs.inner.+uncaptured.Given as goal

abbrev pub invariant-all_uncaptured-loop-sub : goal.invariant-all_uncaptured-loop-sub
invariant-all_uncaptured-loop-sub l =
    l.all.items ++ all_uncaptured (expressions (drop l.sub-index l.subs)) ≡ all_uncaptured (expressions l.subs)

abbrev pub decreases-uncaptured : goal.decreases-uncaptured
decreases-uncaptured l = 3 * depth l.hir.now + 1

abbrev pub decreases-uncaptured_copies : goal.decreases-uncaptured_copies
decreases-uncaptured_copies l = 3 * depth l.copies.now.sub.value + 2

abbrev pub decreases-all_uncaptured : goal.decreases-all_uncaptured
decreases-all_uncaptured l = 3 * greatest_depth (expressions l.subs.now)
