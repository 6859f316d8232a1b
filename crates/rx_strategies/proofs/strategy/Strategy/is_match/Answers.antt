use Rattle.std.proofs.Common.{refl, sym, subst}
use Rattle.rx_search.specs.Answer.{TellsWhether}
use Rattle.rx_strategies.specs.Cache.{Fits, AccountsAlike}
use Rattle.rx_strategies.specs.Strategy.{IsFor, prefilter_in}
use Rattle.rx_strategies.specs.declared.strategy.Strategy.{Strategy}
use Rattle.rx_strategies.proofs.ArmLemmas.{arm-whether, arm-sure}
use Rattle.rx_strategies.proofs.RoomLemmas.{by-core, by-anchored, by-suffix, serves-inner, lent-fits, lent-inner, lent-states, left-alike, left-inner}
use Rattle.rx_strategies.proofs.strategy.Strategy.is_match.Goals as goal

pub anchored_is_match-requires : goal.anchored_is_match-requires
anchored_is_match-requires c = lent-fits _ _ c.cache.view_is _ _ (by-anchored _ _ _ c.in-ReverseAnchored.is refl) c.requires

pub returns-in-ReverseAnchored-clause-value : goal.returns-in-ReverseAnchored-clause-value
returns-in-ReverseAnchored-clause-value c =
    arm-whether _ _ c.in-ReverseAnchored.is c.args.input.now c.anchored_is_match.result c.anchored_is_match.ensures.value

pub returns-in-ReverseAnchored-clause-sure : goal.returns-in-ReverseAnchored-clause-sure
returns-in-ReverseAnchored-clause-sure c = arm-sure _ _ c.in-ReverseAnchored.is c.args.input.now c.anchored_is_match.ensures.sure

pub returns-in-ReverseAnchored-clause-cache : goal.returns-in-ReverseAnchored-clause-cache
returns-in-ReverseAnchored-clause-cache c = (by-anchored _ _ _ c.in-ReverseAnchored.is refl).serves _ c.anchored_is_match.ensures.cache

pub returns-in-ReverseAnchored-clause-memory : goal.returns-in-ReverseAnchored-clause-memory
returns-in-ReverseAnchored-clause-memory c =
    left-alike _ _ c.cache.view_is _ _ (by-anchored _ _ _ c.in-ReverseAnchored.is refl) _ c.anchored_is_match.ensures.memory

pub suffix_is_match-requires : goal.suffix_is_match-requires
suffix_is_match-requires c = lent-fits _ _ c.cache.view_is _ _ (by-suffix _ _ _ c.in-ReverseSuffix.is refl) c.requires

pub returns-in-ReverseSuffix-clause-value : goal.returns-in-ReverseSuffix-clause-value
returns-in-ReverseSuffix-clause-value c =
    arm-whether _ _ c.in-ReverseSuffix.is c.args.input.now c.suffix_is_match.result c.suffix_is_match.ensures.value

pub returns-in-ReverseSuffix-clause-sure : goal.returns-in-ReverseSuffix-clause-sure
returns-in-ReverseSuffix-clause-sure c = arm-sure _ _ c.in-ReverseSuffix.is c.args.input.now c.suffix_is_match.ensures.sure

pub returns-in-ReverseSuffix-clause-cache : goal.returns-in-ReverseSuffix-clause-cache
returns-in-ReverseSuffix-clause-cache c = (by-suffix _ _ _ c.in-ReverseSuffix.is refl).serves _ c.suffix_is_match.ensures.cache

pub returns-in-ReverseSuffix-clause-memory : goal.returns-in-ReverseSuffix-clause-memory
returns-in-ReverseSuffix-clause-memory c =
    left-alike _ _ c.cache.view_is _ _ (by-suffix _ _ _ c.in-ReverseSuffix.is refl) _ c.suffix_is_match.ensures.memory

pub core_is_match-requires : goal.core_is_match-requires
core_is_match-requires c = lent-fits _ _ c.cache.view_is _ _ (by-core _ _ c.in-Core.is) c.requires

pub returns-in-Core-clause-value : goal.returns-in-Core-clause-value
returns-in-Core-clause-value c = arm-whether _ _ c.in-Core.is c.args.input.now c.core_is_match.result c.core_is_match.ensures.value

pub returns-in-Core-clause-sure : goal.returns-in-Core-clause-sure
returns-in-Core-clause-sure c = arm-sure _ _ c.in-Core.is c.args.input.now c.core_is_match.ensures.sure

pub returns-in-Core-clause-cache : goal.returns-in-Core-clause-cache
returns-in-Core-clause-cache c = (by-core _ _ c.in-Core.is).serves _ c.core_is_match.ensures.cache

pub returns-in-Core-clause-memory : goal.returns-in-Core-clause-memory
returns-in-Core-clause-memory c = left-alike _ _ c.cache.view_is _ _ (by-core _ _ c.in-Core.is) _ c.core_is_match.ensures.memory

pub inner_is_match-requires-clause-fits : goal.inner_is_match-requires-clause-fits
inner_is_match-requires-clause-fits c = lent-inner _ _ c.cache.view_is _ _ c.in-ReverseInner.is c.requires

pub inner_is_match-requires-clause-states_fit : goal.inner_is_match-requires-clause-states_fit
inner_is_match-requires-clause-states_fit c = lent-states _ _ c.cache.view_is _ _ c.in-ReverseInner.is c.requires

pub returns-in-ReverseInner-clause-value : goal.returns-in-ReverseInner-clause-value
returns-in-ReverseInner-clause-value c = arm-whether _ _ c.in-ReverseInner.is c.args.input.now c.inner_is_match.result c.inner_is_match.ensures.value

pub returns-in-ReverseInner-clause-sure : goal.returns-in-ReverseInner-clause-sure
returns-in-ReverseInner-clause-sure c = arm-sure _ _ c.in-ReverseInner.is c.args.input.now c.inner_is_match.ensures.sure

pub returns-in-ReverseInner-clause-cache : goal.returns-in-ReverseInner-clause-cache
returns-in-ReverseInner-clause-cache c = serves-inner _ _ c.in-ReverseInner.is _ c.inner_is_match.ensures.cache c.inner_is_match.ensures.states_fit

pub returns-in-ReverseInner-clause-memory : goal.returns-in-ReverseInner-clause-memory
returns-in-ReverseInner-clause-memory c =
    left-inner _ _ c.cache.view_is _ _ c.in-ReverseInner.is _ _ c.inner_is_match.ensures.memory c.inner_is_match.ensures.states_same

pub returns-in-Pre-clause-value : goal.returns-in-Pre-clause-value
returns-in-Pre-clause-value c =
    subst (λ (s : Strategy). TellsWhether (λ r. IsFor s r) (prefilter_in s) c.args.input.now c.is_match.result) (sym c.in-Pre.is) c.is_match.ensures.value

pub returns-in-Pre-clause-cache : goal.returns-in-Pre-clause-cache
returns-in-Pre-clause-cache c = subst (λ (s : Strategy). Fits s c.args.cache.now) (sym c.in-Pre.is) tt

pub returns-in-Pre-clause-memory : goal.returns-in-Pre-clause-memory
returns-in-Pre-clause-memory c = subst (λ (s : Strategy). AccountsAlike s c.args.cache.now c.args.cache.now) (sym c.in-Pre.is) refl
