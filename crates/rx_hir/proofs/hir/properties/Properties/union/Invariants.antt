use Rattle.std.proofs.Common.{◌<◌, List, length, drop}
use Rattle.rx_model.specs.Expression.{Expression, alternation}
use Rattle.rx_hir.specs.Normal.{expressions}
use Rattle.rx_hir.specs.PropertiesViews.{AreOf, AreOfEach}
use Rattle.rx_hir.proofs.hir.properties.Properties.union.Given as goal

abbrev pub invariant-loop-i : goal.invariant-loop-i
invariant-loop-i l = record {
  later : (hs : List Expression) → AreOfEach hs (drop l.i l.patterns) → AreOf (alternation (expressions hs)) l.union;
  within : l.i < length l.patterns;
}

abbrev pub decreases-loop-i : goal.decreases-loop-i
decreases-loop-i l = l.i
