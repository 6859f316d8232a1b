use Rattle.std.proofs.Common.{◌≡◌, ◌+◌, ◌*◌, drop}
use Rattle.rx_class.specs.ClassViews.{class_view}
use Rattle.rx_hir.specs.Depth.{depth, greatest_depth}
use Rattle.rx_hir.specs.HirViews.{kind_view}
use Rattle.rx_hir.specs.Normal.{expressions}
use Rattle.rx_order.specs.Tests.{all_apart}
use Rattle.rx_order.proofs.separator.+apart.Given as goal

abbrev pub invariant-all_apart-loop-sub : goal.invariant-all_apart-loop-sub
invariant-all_apart-loop-sub l =
    all_apart (class_view l.class) (expressions (drop l.sub-index l.subs)) ≡ all_apart (class_view l.class) (expressions l.subs)

abbrev pub decreases-is_apart : goal.decreases-is_apart
decreases-is_apart l = 3 * depth l.hir.now + 2

abbrev pub decreases-kind_is_apart : goal.decreases-kind_is_apart
decreases-kind_is_apart l = 3 * depth (kind_view l.kind.now) + 1

abbrev pub decreases-all_apart : goal.decreases-all_apart
decreases-all_apart l = 3 * greatest_depth (expressions l.subs.now)
