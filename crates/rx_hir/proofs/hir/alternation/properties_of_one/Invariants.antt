use Rattle.std.proofs.Common.{◌<◌, length, drop}
use Rattle.rx_model.specs.Expression.{alternation}
use Rattle.rx_hir.specs.Normal.{expressions}
use Rattle.rx_hir.specs.PropertiesViews.{AreOf}
use Rattle.rx_hir.specs.Sound.{AreSound}
use Rattle.rx_hir.proofs.hir.alternation.properties_of_one.Given as goal

abbrev pub invariant-loop-i : goal.invariant-loop-i
invariant-loop-i l = record {
  later : AreOf (alternation (expressions (drop l.i l.alternatives))) l.properties;
  sound : AreSound (expressions (drop l.i l.alternatives));
  within : l.i < length l.alternatives;
}

abbrev pub decreases-loop-i : goal.decreases-loop-i
decreases-loop-i l = l.i
