use Rattle.std.proofs.Common.{◌≡◌, ◌<◌, ◌+◌, ◌-◌, length, drop, arith, sym, subst}
use Rattle.rx_model.specs.Expression.{concat}
use Rattle.rx_hir.specs.Normal.{expressions}
use Rattle.rx_hir.specs.PropertiesViews.{AreOf}
use Rattle.rx_hir.specs.Sound.{IsSound}
use Rattle.rx_hir.proofs.JoinedLemmas.{expressions-drop}
use Rattle.rx_hir.proofs.SoundLemmas.{AreSound-drop}
use Rattle.rx_hir.proofs.hir.concat.properties_in_row.Goals as goal

pub loop-i-preserved : goal.loop-i-preserved
loop-i-preserved c =
    let i = c.loop-i.i - 1 in
    let within : c.loop-i.i - 1 < length c.args.parts.now = omega arith in
    let e : c.loop-i.i ≡ c.loop-i.i - 1 + 1 = omega arith in
    let part = c.index-parts-i.result in
    let own = subst (λ h. AreOf h c.part.inside.properties) c.part.view_is c.part.invariant.0 in
    let row = c.then-properties.ensures part (expressions (drop (c.loop-i.i - 1 + 1) c.args.parts.now)) own (rw (← e) c.loop-i.invariant.later) in
    record {
      later = subst (λ hs. AreOf (concat hs) c.then-properties.result) (sym (expressions-drop c.args.parts.now i part within c.index-parts-i.is)) row;
      sound = AreSound-drop c.args.parts.now i part within c.index-parts-i.is (subst IsSound c.part.view_is c.part.invariant.1)
          (rw (← e) c.loop-i.invariant.sound);
      within = omega arith;
    }
