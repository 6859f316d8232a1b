use Rattle.std.proofs.Common.{◌≡◌, ◌+◌, ◌*◌, drop}
use Rattle.rx_hir.specs.Depth.{depth, greatest_depth}
use Rattle.rx_hir.specs.HirViews.{kind_view}
use Rattle.rx_hir.specs.Normal.{expressions}
use Rattle.rx_order.specs.Tests.{one_can_consume}
use Rattle.rx_order.proofs.consumed.+consume.Given as goal

abbrev pub invariant-one_can_consume-loop-sub : goal.invariant-one_can_consume-loop-sub
invariant-one_can_consume-loop-sub l = one_can_consume l.byte (expressions (drop l.sub-index l.subs)) ≡ one_can_consume l.byte (expressions l.subs)

abbrev pub decreases-can_consume : goal.decreases-can_consume
decreases-can_consume l = 3 * depth l.hir.now + 2

abbrev pub decreases-kind_can_consume : goal.decreases-kind_can_consume
decreases-kind_can_consume l = 3 * depth (kind_view l.kind.now) + 1

abbrev pub decreases-one_can_consume : goal.decreases-one_can_consume
decreases-one_can_consume l = 3 * greatest_depth (expressions l.subs.now)
