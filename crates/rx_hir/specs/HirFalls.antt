-- A child is less deep than its parent.
use Rattle.std.specs.Prelude.{max, ◌+◌, ◌≤◌, List, [], ◌∷◌}
use Rattle.std.proofs.Common.{arith}
use denote.Param.Weighed.{most}
use Rattle.rx_model.specs.Expression.{Expression}
use Rattle.rx_hir.specs.Depth.{depth, greatest_depth}
use Rattle.rx_hir.specs.Normal.{expressions}
use Rattle.rx_hir.specs.HirViews.{kind_view}
use Rattle.rx_hir.specs.declared.hir.HirKind.{HirKind}
use Rattle.rx_hir.specs.declared.hir.HirKind.TheVariants.{Empty, Literal, Class as Set, Look as Assertion, Repetition, Capture, Concat, Alternation}
use Rattle.rx_hir.specs.declared.hir.Hir.TheDeep.{deep-HirKind}

pub most_le-greatest_depth : (hs : List Expression) → most (λ h. depth h + 1) hs ≤ greatest_depth (expressions hs)
most_le-greatest_depth [] = omega arith
most_le-greatest_depth (h ∷ hs) = omega (arith, most_le-greatest_depth hs)

pub kind_falls : (kind : HirKind) → max (deep-HirKind kind) 0 ≤ depth (kind_view kind)
kind_falls Empty = omega arith
kind_falls (Literal bytes) = omega arith
kind_falls (Set members) = omega arith
kind_falls (Assertion kind) = omega arith
kind_falls (Repetition r) = omega arith
kind_falls (Capture c) = omega arith
kind_falls (Concat subs) = omega (arith, most_le-greatest_depth subs.items)
kind_falls (Alternation subs) = omega (arith, most_le-greatest_depth subs.items)
