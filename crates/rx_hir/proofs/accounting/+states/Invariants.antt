use Rattle.std.proofs.Common.{◌≡◌, ◌+◌, ◌<◌, ◌^◌, ◌*◌, drop}
use Rattle.rx_hir.specs.Cost.{accounted_in, capped}
use Rattle.rx_hir.specs.Depth.{depth, greatest_depth}
use Rattle.rx_hir.specs.HirViews.{kind_view}
use Rattle.rx_hir.specs.Normal.{expressions}
use Rattle.rx_hir.proofs.accounting.+states.Given as goal

abbrev pub invariant-states_in-loop-sub : goal.invariant-states_in-loop-sub
invariant-states_in-loop-sub l = record {
  so_far : capped (l.total + accounted_in (expressions (drop l.sub-index l.subs))) ≡ capped (accounted_in (expressions l.subs));
  fits : l.total < 2 ^ 64;
}

abbrev pub decreases-states : goal.decreases-states
decreases-states l = 3 * depth l.hir.now + 2

abbrev pub decreases-states_of_kind : goal.decreases-states_of_kind
decreases-states_of_kind l = 3 * depth (kind_view l.kind.now) + 1

abbrev pub decreases-states_in : goal.decreases-states_in
decreases-states_in l = 3 * greatest_depth (expressions l.subs.now)
