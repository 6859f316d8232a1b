use Rattle.std.proofs.Common.{sym, ◌∙◌, subst}
use Rattle.rx_model.specs.Expression.{alternation}
use Rattle.rx_hir.specs.Normal.{expressions}
use Rattle.rx_hir.specs.PropertiesViews.{AreOf}
use Rattle.rx_hir.specs.declared.hir.properties.Properties.{Properties}
use Rattle.rx_pre.specs.Pre.{IsPreFor}
use Rattle.rx_strategies.specs.Strategy.{IsFor}
use Rattle.rx_strategies.specs.declared.strategy.Strategy.{Strategy}
use Rattle.rx_strategies.proofs.StrategyLemmas.{pre-none}
use Rattle.rx_strategies.proofs.ArmLemmas.{of-core, of-anchored, of-suffix, of-inner}
use Rattle.rx_strategies.proofs.strategy.Strategy.is_impossible.Goals as goal

pub returns-in-Pre-clause-none : goal.returns-in-Pre-clause-none
returns-in-Pre-clause-none c impossible r of =
    let own : IsPreFor c.in-Pre.pre r = subst (λ (s : Strategy). IsFor s r) c.in-Pre.is of in
    let theirs = subst (λ (p : Properties). AreOf (alternation (expressions r.expressions)) p) (sym c.properties.ensures) own.properties in
    pre-none c.in-Pre.pre c.args.input.now c.is_impossible_by.ensures.spanned.end r own
    (sym (c.is_impossible_by.ensures.value r.expressions theirs) ∙ impossible)

pub returns-in-ReverseAnchored-clause-value : goal.returns-in-ReverseAnchored-clause-value
returns-in-ReverseAnchored-clause-value c hs are =
    c.is_impossible.ensures.value hs
    (subst (λ (p : Properties). AreOf (alternation (expressions hs)) p) (sym (of-anchored _ _ _ c.in-ReverseAnchored.is c.core.ensures).properties) are)

pub returns-in-ReverseAnchored-clause-none : goal.returns-in-ReverseAnchored-clause-none
returns-in-ReverseAnchored-clause-none c known r for =
    c.is_impossible.ensures.none known r ((of-anchored _ _ _ c.in-ReverseAnchored.is c.core.ensures).patterns r for)

pub returns-in-ReverseAnchored-clause-spanned : goal.returns-in-ReverseAnchored-clause-spanned
returns-in-ReverseAnchored-clause-spanned c = c.is_impossible.ensures.spanned

pub returns-in-ReverseSuffix-clause-value : goal.returns-in-ReverseSuffix-clause-value
returns-in-ReverseSuffix-clause-value c hs are =
    c.is_impossible-in-ReverseSuffix.ensures.value hs
    (subst (λ (p : Properties). AreOf (alternation (expressions hs)) p) (sym (of-suffix _ _ _ c.in-ReverseSuffix.is c.core-in-ReverseSuffix.ensures).properties) are)

pub returns-in-ReverseSuffix-clause-none : goal.returns-in-ReverseSuffix-clause-none
returns-in-ReverseSuffix-clause-none c known r for =
    c.is_impossible-in-ReverseSuffix.ensures.none known r ((of-suffix _ _ _ c.in-ReverseSuffix.is c.core-in-ReverseSuffix.ensures).patterns r for)

pub returns-in-ReverseSuffix-clause-spanned : goal.returns-in-ReverseSuffix-clause-spanned
returns-in-ReverseSuffix-clause-spanned c = c.is_impossible-in-ReverseSuffix.ensures.spanned

pub returns-in-ReverseInner-clause-value : goal.returns-in-ReverseInner-clause-value
returns-in-ReverseInner-clause-value c hs are =
    c.is_impossible-in-ReverseInner.ensures.value hs
    (subst (λ (p : Properties). AreOf (alternation (expressions hs)) p) (sym (of-inner _ _ _ c.in-ReverseInner.is c.core-in-ReverseInner.ensures).properties) are)

pub returns-in-ReverseInner-clause-none : goal.returns-in-ReverseInner-clause-none
returns-in-ReverseInner-clause-none c known r for =
    c.is_impossible-in-ReverseInner.ensures.none known r ((of-inner _ _ _ c.in-ReverseInner.is c.core-in-ReverseInner.ensures).patterns r for)

pub returns-in-ReverseInner-clause-spanned : goal.returns-in-ReverseInner-clause-spanned
returns-in-ReverseInner-clause-spanned c = c.is_impossible-in-ReverseInner.ensures.spanned

pub returns-in-Core-clause-value : goal.returns-in-Core-clause-value
returns-in-Core-clause-value c hs are =
    c.is_impossible-in-Core.ensures.value hs
    (subst (λ (p : Properties). AreOf (alternation (expressions hs)) p) (sym (of-core _ _ c.in-Core.is).properties) are)

pub returns-in-Core-clause-none : goal.returns-in-Core-clause-none
returns-in-Core-clause-none c known r for = c.is_impossible-in-Core.ensures.none known r ((of-core _ _ c.in-Core.is).patterns r for)

pub returns-in-Core-clause-spanned : goal.returns-in-Core-clause-spanned
returns-in-Core-clause-spanned c = c.is_impossible-in-Core.ensures.spanned
