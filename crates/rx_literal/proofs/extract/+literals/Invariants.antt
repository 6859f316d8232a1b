use Rattle.std.proofs.Common.{◌≡◌, ◌≤◌, ◌+◌, ◌*◌, length, drop}
use Rattle.rx_hir.specs.Depth.{depth, greatest_depth}
use Rattle.rx_hir.specs.HirViews.{kind_view}
use Rattle.rx_hir.specs.Normal.{expressions}
use Rattle.rx_literal.specs.Literals.{one_empty, union}
use Rattle.rx_literal.specs.declared.side.Side.TheVariants.{Front as front, Back as back}
use Rattle.rx_literal.specs.Extract.{in_turn, of_one}
use Rattle.rx_literal.proofs.lemmas.prefixes.UnionLemmas.{IsFew}
use Rattle.rx_literal.proofs.extract.+literals.Given as goal

abbrev pub invariant-from_the_front-loop-sub : goal.invariant-from_the_front-loop-sub
invariant-from_the_front-loop-sub l = in_turn front l.seq (expressions (drop l.sub-index l.subs)) ≡ in_turn front one_empty (expressions l.subs)

abbrev pub invariant-from_the_back-loop-i : goal.invariant-from_the_back-loop-i
invariant-from_the_back-loop-i l = record {
  so_far : l.seq ≡ in_turn back one_empty (expressions (drop l.i l.subs));
  within : l.i ≤ length l.subs;
}

abbrev pub decreases-from_the_back-loop-i : goal.decreases-from_the_back-loop-i
decreases-from_the_back-loop-i l = l.i

abbrev pub invariant-of_one-loop-sub : goal.invariant-of_one-loop-sub
invariant-of_one-loop-sub l = record {
  so_far : union l.seq (of_one l.fn.side (expressions (drop l.sub-index l.subs))) ≡ of_one l.fn.side (expressions l.subs);
  few : IsFew l.seq;
}

abbrev pub decreases-literals : goal.decreases-literals
decreases-literals l = 4 * depth l.hir.now + 3

abbrev pub decreases-literals_of_kind : goal.decreases-literals_of_kind
decreases-literals_of_kind l = 4 * depth (kind_view l.kind.now) + 2

abbrev pub decreases-in_turn : goal.decreases-in_turn
decreases-in_turn l = 4 * greatest_depth (expressions l.subs.now) + 1

abbrev pub decreases-from_the_front : goal.decreases-from_the_front
decreases-from_the_front l = 4 * greatest_depth (expressions l.subs.now)

abbrev pub decreases-from_the_back : goal.decreases-from_the_back
decreases-from_the_back l = 4 * greatest_depth (expressions l.subs.now)

abbrev pub decreases-of_one : goal.decreases-of_one
decreases-of_one l = 4 * greatest_depth (expressions l.subs.now)

abbrev pub decreases-with_literals : goal.decreases-with_literals
decreases-with_literals l = 4 * depth l.hir.now + 3
