use Rattle.std.proofs.Common.{◌≡◌, ◌+◌, ◌*◌, drop}
use Rattle.std.specs.Prelude.{max}
use Rattle.rx_model.specs.Search.{greatest_in}
use Rattle.rx_hir.specs.Depth.{depth, greatest_depth}
use Rattle.rx_hir.specs.HirViews.{kind_view}
use Rattle.rx_hir.specs.Normal.{expressions}
use Rattle.rx_hir.proofs.hir.groups.+groups.Given as goal

abbrev pub invariant-greatest_in-loop-sub : goal.invariant-greatest_in-loop-sub
invariant-greatest_in-loop-sub l = max l.greatest (greatest_in (expressions (drop l.sub-index l.subs))) ≡ greatest_in (expressions l.subs)

abbrev pub decreases-greatest_group : goal.decreases-greatest_group
decreases-greatest_group l = 3 * depth l.hir.now + 2

abbrev pub decreases-greatest_of_kind : goal.decreases-greatest_of_kind
decreases-greatest_of_kind l = 3 * depth (kind_view l.kind.now) + 1

abbrev pub decreases-greatest_in : goal.decreases-greatest_in
decreases-greatest_in l = 3 * greatest_depth (expressions l.subs.now)
