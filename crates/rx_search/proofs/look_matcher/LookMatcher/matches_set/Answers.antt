use Rattle.std.proofs.Common.{sym, subst, ◌∙◌, refl}
use Rattle.std.proofs.lemmas.Bool.{true≢false}
use Rattle.rx_model.specs.Look as model
use Rattle.rx_model.specs.Look.{holds}
use Rattle.rx_search.proofs.LookSetLemmas.{Each, each-kind, kind-of-each}
use Rattle.rx_search.proofs.look_matcher.LookMatcher.matches_set.Goals as goal

pub loop-look-init : goal.loop-look-init
loop-look-init c =
    let test = λ (kind : model.Look). holds c.args.self.now c.args.haystack.now kind c.args.at in
    let all = c.into_iter-look-iterator.ensures.into_iter_gives ∙ c.iter-look-items.ensures in (
      λ each. kind-of-each c.args.set test (subst (Each test) all each),
      λ h. subst (Each test) (sym all) (each-kind c.args.set test h),
    )

pub returns-then-not-matches : goal.returns-then-not-matches
returns-then-not-matches c =
    let test = λ (kind : model.Look). holds c.args.self.now c.args.haystack.now kind c.args.at in (
      λ impossible. absurd (true≢false (sym impossible)),
      λ h. absurd (true≢false (sym (subst (Each test) c.in-Some.ensures.steps (c.loop-look.invariant.1 h)).0 ∙ sym c.matches.ensures ∙ c.if-not-matches.true)),
    )

pub loop-look-preserved : goal.loop-look-preserved
loop-look-preserved c =
    let test = λ (kind : model.Look). holds c.args.self.now c.args.haystack.now kind c.args.at in
    let steps = c.in-Some.ensures.steps in (
      λ each. c.loop-look.invariant.0 (subst (Each test) (sym steps) (sym c.matches.ensures ∙ c.if-not-matches.false, each)),
      λ h. (subst (Each test) steps (c.loop-look.invariant.1 h)).1,
    )

pub returns : goal.returns
returns c =
    let test = λ (kind : model.Look). holds c.args.self.now c.args.haystack.now kind c.args.at in (
      λ _. c.loop-look.invariant.0 (subst (Each test) (sym c.in-None.ensures.steps.0) tt),
      λ _. refl,
    )
