use Rattle.std.proofs.Common.{◌≤◌, length, drop}
use Rattle.rx_model.specs.Expression.{concat}
use Rattle.rx_hir.specs.Normal.{expressions}
use Rattle.rx_hir.specs.PropertiesViews.{AreOf}
use Rattle.rx_hir.specs.Sound.{AreSound}
use Rattle.rx_hir.proofs.hir.concat.properties_in_row.Given as goal

abbrev pub invariant-loop-i : goal.invariant-loop-i
invariant-loop-i l = record {
  later : AreOf (concat (expressions (drop l.i l.parts))) l.properties;
  sound : AreSound (expressions (drop l.i l.parts));
  within : l.i ≤ length l.parts;
}

abbrev pub decreases-loop-i : goal.decreases-loop-i
decreases-loop-i l = l.i
