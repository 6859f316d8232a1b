use Rattle.std.proofs.Common.{◌≡◌, ◌<◌, ◌+◌, ◌-◌, length, drop, get_or, arith, ◌∙◌, ap, sym, subst}
use Rattle.std.proofs.lemmas.List.{at_drop_more}
use Rattle.rx_model.specs.Expression.{alternation, cons}
use Rattle.rx_hir.specs.Normal.{expressions}
use Rattle.rx_hir.specs.PropertiesViews.{AreOf}
use Rattle.rx_hir.specs.Sound.{IsSound, AreSound}
use Rattle.rx_hir.proofs.JoinedLemmas.{expressions-drop}
use Rattle.rx_hir.proofs.SoundLemmas.{AreSound-drop}
use Rattle.rx_hir.proofs.hir.alternation.properties_of_one.Goals as goal

pub loop-i-preserved : goal.loop-i-preserved
loop-i-preserved c =
    let hs = c.args.alternatives.now in
    let i = c.loop-i.i - 1 in
    let within : c.loop-i.i - 1 < length c.args.alternatives.now = omega arith in
    let e : c.loop-i.i ≡ c.loop-i.i - 1 + 1 = omega arith in
    let one = c.index-alternatives-i-in-loop-i.result in
    let own = subst (λ h. AreOf h c.alternative.inside.properties) c.alternative.view_is c.alternative.invariant.0 in
    let next = get_or hs (i + 1) one in
    let rest = expressions (drop (i + 1 + 1) hs) in
    let later : expressions (drop (i + 1) hs) ≡ cons next rest = at_drop_more expressions hs (i + 1) one (rw (← e) c.loop-i.invariant.within) in
    let others = subst (λ xs. AreOf (alternation xs) c.loop-i.properties) later (rw (← e) c.loop-i.invariant.later) in
    let all = c.or-properties.ensures one next rest own others in
    record {
      later = subst (λ xs. AreOf (alternation xs) c.or-properties.result)
          (ap (λ ys. cons one ys) (sym later) ∙ sym (expressions-drop hs i one within c.index-alternatives-i-in-loop-i.is)) all;
      sound = AreSound-drop hs i one within c.index-alternatives-i-in-loop-i.is (subst IsSound c.alternative.view_is c.alternative.invariant.1)
          (rw (← e) c.loop-i.invariant.sound);
      within = within;
    }

pub returns-clause-value : goal.returns-clause-value
returns-clause-value c =
    let ended : c.loop-i.i ≡ 0 = omega arith in
    subst (λ n. AreOf (alternation (expressions (drop n c.args.alternatives.now))) c.loop-i.properties) ended c.loop-i.invariant.later

pub returns-clause-sound : goal.returns-clause-sound
returns-clause-sound c =
    let ended : c.loop-i.i ≡ 0 = omega arith in
    subst (λ n. AreSound (expressions (drop n c.args.alternatives.now))) ended c.loop-i.invariant.sound
