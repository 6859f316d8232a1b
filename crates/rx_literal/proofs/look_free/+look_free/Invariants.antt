use Rattle.std.proofs.Common.{◌+◌, ◌*◌, drop}
use Rattle.rx_hir.specs.Depth.{depth, greatest_depth}
use Rattle.rx_hir.specs.HirViews.{kind_view}
use Rattle.rx_hir.specs.Normal.{expressions}
use Rattle.rx_literal.specs.First.{AreLookFree}
use Rattle.rx_literal.proofs.look_free.+look_free.Given as goal

abbrev pub invariant-are_look_free-loop-sub : goal.invariant-are_look_free-loop-sub
invariant-are_look_free-loop-sub l = AreLookFree (expressions (drop l.sub-index l.subs)) → AreLookFree (expressions l.subs)

abbrev pub decreases-is_look_free : goal.decreases-is_look_free
decreases-is_look_free l = 3 * depth l.hir.now + 2

abbrev pub decreases-kind_is_look_free : goal.decreases-kind_is_look_free
decreases-kind_is_look_free l = 3 * depth (kind_view l.kind.now) + 1

abbrev pub decreases-are_look_free : goal.decreases-are_look_free
decreases-are_look_free l = 3 * greatest_depth (expressions l.subs.now)
