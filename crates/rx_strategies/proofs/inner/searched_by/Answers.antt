use Rattle.std.proofs.Common.{◌≡◌, ℕ, List, sym, ◌∙◌, subst, refl}
use Rattle.std.specs.Prelude.{MatchOption, None}
use Rattle.rx_model.specs.Expression.{alternation}
use Rattle.rx_hir.specs.Normal.{expressions}
use Rattle.rx_order.specs.Inner.{inner_of}
use Rattle.rx_attempts.specs.Candidates.{AreNotEmpty}
use Rattle.rx_strategy.specs.Prefix.{HasNoPrefix, IsPrefixOf}
use Rattle.rx_strategies.specs.Attempts.{IsInnerFound}
use Rattle.rx_strategies.specs.Choice.{if_inner_in_order}
use Rattle.rx_strategies.proofs.ChosenLemmas.{attempts-dfas, inner-not, inner-none, inner-unread, inner-made-of}
use Rattle.rx_strategies.proofs.MadeLemmas.{made-properties}
use Rattle.rx_strategies.proofs.inner.searched_by.Goals as goal

pub returns-then-not-may_attempt : goal.returns-then-not-may_attempt
returns-then-not-may_attempt c =
    let config = c.args.config.now in
    let hs = c.args.exprs.now in
    let core = c.args.core.now in (
      refl,
      inner-not config core hs
          (sym (c.may_attempt.ensures (alternation (expressions hs)) (made-properties config hs core c.requires)) ∙ c.if-not-may_attempt.true),
    )

pub returns-in_default : goal.returns-in_default
returns-in_default c =
    let config = c.args.config.now in
    let hs = c.args.exprs.now in
    let core = c.args.core.now in
    let on = sym (c.may_attempt.ensures (alternation (expressions hs)) (made-properties config hs core c.requires)) ∙ c.if-not-may_attempt.false in (
      refl,
      inner-none config core hs on
          (subst (λ o. MatchOption o (if_inner_in_order (inner_of hs) ≡ None) (λ i. IsInnerFound hs i.prefix i.pre)) c.in_default.is c.in_ok-inner.ensures),
    )

pub returns-in-Ok-Some : goal.returns-in-Ok-Some
returns-in-Ok-Some c =
    let config = c.args.config.now in
    let hs = c.args.exprs.now in
    let core = c.args.core.now in
    let prefix = c.in-Some.inner.prefix in
    let on = sym (c.may_attempt.ensures (alternation (expressions hs)) (made-properties config hs core c.requires)) ∙ c.if-not-may_attempt.false in
    let found : IsInnerFound hs prefix c.in-Some.inner.pre =
    subst (λ o. MatchOption o (if_inner_in_order (inner_of hs) ≡ None) (λ i. IsInnerFound hs i.prefix i.pre)) c.in-Some.is c.in_ok-inner.ensures in
    let reads = subst (λ o. MatchOption o (HasNoPrefix config prefix) (IsPrefixOf config prefix)) c.in-Ok-Some.field-0-is c.in-Ok-Some.ensures in (
      inner-made-of config core hs on prefix c.search_of.result
          (subst (λ (needles : List (List ℕ)). IsInnerFound hs prefix needles) (sym c.search_of.ensures) found) c.in-Ok-Some.prefix reads _ refl,
      record {
        there = attempts-dfas config core hs (alternation (expressions hs)) on;
        some = subst (λ (needles : List (List ℕ)). AreNotEmpty needles) (sym c.search_of.ensures) found.2;
      },
    )

pub returns-in-Ok-None : goal.returns-in-Ok-None
returns-in-Ok-None c =
    let config = c.args.config.now in
    let hs = c.args.exprs.now in
    let core = c.args.core.now in
    let prefix = c.in-Some.inner.prefix in
    let on = sym (c.may_attempt.ensures (alternation (expressions hs)) (made-properties config hs core c.requires)) ∙ c.if-not-may_attempt.false in
    let found : IsInnerFound hs prefix c.in-Some.inner.pre =
    subst (λ o. MatchOption o (if_inner_in_order (inner_of hs) ≡ None) (λ i. IsInnerFound hs i.prefix i.pre)) c.in-Some.is c.in_ok-inner.ensures in
    let none = subst (λ o. MatchOption o (HasNoPrefix config prefix) (IsPrefixOf config prefix)) c.in-Ok-None.field-0-is c.in-Ok-None.ensures in
    (refl, inner-unread config core hs on prefix c.in-Some.inner.pre found none)
