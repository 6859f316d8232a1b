use Rattle.std.proofs.Common.{◌≡◌, ◌+◌, ◌*◌, drop}
use Rattle.rx_model.specs.Empty.{all_can_be_empty, one_can_be_empty}
use Rattle.rx_hir.specs.Depth.{depth, greatest_depth}
use Rattle.rx_hir.specs.HirViews.{kind_view}
use Rattle.rx_hir.specs.Normal.{expressions}
use Rattle.rx_hir.proofs.hir.emptiness.+emptiness.Given as goal

abbrev pub invariant-all_can_be_empty-loop-sub : goal.invariant-all_can_be_empty-loop-sub
invariant-all_can_be_empty-loop-sub l = all_can_be_empty (expressions (drop l.sub-index l.subs)) ≡ all_can_be_empty (expressions l.subs)

abbrev pub invariant-one_can_be_empty-loop-sub : goal.invariant-one_can_be_empty-loop-sub
invariant-one_can_be_empty-loop-sub l = one_can_be_empty (expressions (drop l.sub-index l.subs)) ≡ one_can_be_empty (expressions l.subs)

abbrev pub decreases-can_be_empty : goal.decreases-can_be_empty
decreases-can_be_empty l = 3 * depth l.hir.now + 2

abbrev pub decreases-kind_can_be_empty : goal.decreases-kind_can_be_empty
decreases-kind_can_be_empty l = 3 * depth (kind_view l.kind.now) + 1

abbrev pub decreases-all_can_be_empty : goal.decreases-all_can_be_empty
decreases-all_can_be_empty l = 3 * greatest_depth (expressions l.subs.now)

abbrev pub decreases-one_can_be_empty : goal.decreases-one_can_be_empty
decreases-one_can_be_empty l = 3 * greatest_depth (expressions l.subs.now)
