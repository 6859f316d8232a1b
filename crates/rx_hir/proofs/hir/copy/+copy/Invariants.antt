use Rattle.std.proofs.Common.{◌≡◌, ◌+◌, ◌*◌, take}
use Rattle.rx_hir.specs.Depth.{depth, greatest_depth}
use Rattle.rx_hir.specs.HirViews.{kind_view}
use Rattle.rx_hir.specs.Normal.{expressions}
use Rattle.rx_hir.proofs.hir.copy.+copy.Given as goal

abbrev pub invariant-copy_of_all-loop-sub : goal.invariant-copy_of_all-loop-sub
invariant-copy_of_all-loop-sub l = l.all.items ≡ take l.sub-index l.subs.items

abbrev pub decreases-copy_of : goal.decreases-copy_of
decreases-copy_of l = 3 * depth l.hir.now + 2

abbrev pub decreases-copy_of_kind : goal.decreases-copy_of_kind
decreases-copy_of_kind l = 3 * depth (kind_view l.kind.now) + 1

abbrev pub decreases-copy_of_box : goal.decreases-copy_of_box
decreases-copy_of_box l = 3 * depth l.hir.now.value + 3

abbrev pub decreases-copy_of_all : goal.decreases-copy_of_all
decreases-copy_of_all l = 3 * greatest_depth (expressions l.subs.now.items)
