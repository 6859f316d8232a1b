use Rattle.std.proofs.Common.{◌≡◌, ◌+◌, ◌*◌, length, drop}
use Rattle.rx_search.specs.GroupInfo.{names_of}
use Rattle.rx_hir.specs.Depth.{depth, greatest_depth}
use Rattle.rx_hir.specs.HirViews.{kind_view}
use Rattle.rx_hir.specs.Names.{name_among, filled}
use Rattle.rx_hir.specs.Normal.{expressions}
use Rattle.rx_hir.proofs.hir.names.+names.Given as goal

abbrev pub invariant-add_names_among-loop-sub : goal.invariant-add_names_among-loop-sub
invariant-add_names_among-loop-sub l = record {
  added : filled (λ g. name_among g (expressions (drop l.sub-index l.subs))) 1 (names_of l.names.items) ≡ filled (λ g. name_among g (expressions l.subs)) 1
      (names_of l.initial.names.items);
  count : length l.names.items ≡ length l.initial.names.items;
}

abbrev pub decreases-add_names : goal.decreases-add_names
decreases-add_names l = 3 * depth l.hir.now + 2

abbrev pub decreases-add_names_of_kind : goal.decreases-add_names_of_kind
decreases-add_names_of_kind l = 3 * depth (kind_view l.kind.now) + 1

abbrev pub decreases-add_names_among : goal.decreases-add_names_among
decreases-add_names_among l = 3 * greatest_depth (expressions l.subs.now)
