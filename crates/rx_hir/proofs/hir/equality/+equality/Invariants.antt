use Rattle.std.proofs.Common.{◌≡◌, ◌+◌, ◌*◌, drop}
use Rattle.rx_hir.specs.Depth.{depth, greatest_depth}
use Rattle.rx_hir.specs.Normal.{expressions}
use Rattle.rx_hir.specs.Same.{are_same}
use Rattle.rx_hir.proofs.hir.equality.+equality.Given as goal

abbrev pub invariant-are_same-loop-i : goal.invariant-are_same-loop-i
invariant-are_same-loop-i l = are_same (expressions (drop l.i l.a)) (expressions (drop l.i l.b)) ≡ are_same (expressions l.a) (expressions l.b)

abbrev pub decreases-is_same : goal.decreases-is_same
decreases-is_same l = 4 * depth l.a.now + 3

abbrev pub decreases-is_repetition : goal.decreases-is_repetition
decreases-is_repetition l = 4 * depth l.copies.now.sub.value + 4

abbrev pub decreases-is_capture : goal.decreases-is_capture
decreases-is_capture l = 4 * depth l.group.now.sub.value + 4

abbrev pub decreases-is_concat : goal.decreases-is_concat
decreases-is_concat l = 4 * greatest_depth (expressions l.subs.now) + 1

abbrev pub decreases-is_alternation : goal.decreases-is_alternation
decreases-is_alternation l = 4 * greatest_depth (expressions l.subs.now) + 1

abbrev pub decreases-are_same : goal.decreases-are_same
decreases-are_same l = 4 * greatest_depth (expressions l.a.now)
