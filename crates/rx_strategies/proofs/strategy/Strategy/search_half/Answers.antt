use Rattle.std.proofs.Common.{refl, sym, subst}
use Rattle.std.specs.Prelude.{IfSome, ◌<◌}
use Rattle.rx_search.specs.Answer.{IsAnswer}
use Rattle.rx_search.specs.Matches.{half_match_value}
use Rattle.rx_strategies.specs.Cache.{Fits, AccountsAlike}
use Rattle.rx_strategies.specs.Strategy.{IsFor, kind_in, pattern_count, prefilter_in}
use Rattle.rx_strategies.specs.declared.strategy.Strategy.{Strategy}
use Rattle.rx_strategies.proofs.ArmLemmas.{arm-answers, arm-range, arm-sure}
use Rattle.rx_strategies.proofs.RoomLemmas.{by-core, by-anchored, by-suffix, serves-inner, lent-fits, lent-inner, lent-states, left-alike, left-inner}
use Rattle.rx_strategies.proofs.strategy.Strategy.search_half.Goals as goal

pub anchored_half-requires : goal.anchored_half-requires
anchored_half-requires c = lent-fits _ _ c.cache.view_is _ _ (by-anchored _ _ _ c.in-ReverseAnchored.is refl) c.requires

pub returns-in-ReverseAnchored-clause-answer : goal.returns-in-ReverseAnchored-clause-answer
returns-in-ReverseAnchored-clause-answer c =
    arm-answers _ _ c.in-ReverseAnchored.is c.args.input.now half_match_value c.anchored_half.result c.anchored_half.ensures.answer

pub returns-in-ReverseAnchored-clause-within : goal.returns-in-ReverseAnchored-clause-within
returns-in-ReverseAnchored-clause-within c = c.anchored_half.ensures.within

pub returns-in-ReverseAnchored-clause-in_range : goal.returns-in-ReverseAnchored-clause-in_range
returns-in-ReverseAnchored-clause-in_range c =
    arm-range _ _ c.in-ReverseAnchored.is c.args.input.now (λ m. m.pattern) c.anchored_half.result c.anchored_half.ensures.in_range

pub returns-in-ReverseAnchored-clause-sure : goal.returns-in-ReverseAnchored-clause-sure
returns-in-ReverseAnchored-clause-sure c = arm-sure _ _ c.in-ReverseAnchored.is c.args.input.now c.anchored_half.ensures.sure

pub returns-in-ReverseAnchored-clause-cache : goal.returns-in-ReverseAnchored-clause-cache
returns-in-ReverseAnchored-clause-cache c = (by-anchored _ _ _ c.in-ReverseAnchored.is refl).serves _ c.anchored_half.ensures.cache

pub returns-in-ReverseAnchored-clause-memory : goal.returns-in-ReverseAnchored-clause-memory
returns-in-ReverseAnchored-clause-memory c =
    left-alike _ _ c.cache.view_is _ _ (by-anchored _ _ _ c.in-ReverseAnchored.is refl) _ c.anchored_half.ensures.memory

pub suffix_half-requires : goal.suffix_half-requires
suffix_half-requires c = lent-fits _ _ c.cache.view_is _ _ (by-suffix _ _ _ c.in-ReverseSuffix.is refl) c.requires

pub returns-in-ReverseSuffix-clause-answer : goal.returns-in-ReverseSuffix-clause-answer
returns-in-ReverseSuffix-clause-answer c =
    arm-answers _ _ c.in-ReverseSuffix.is c.args.input.now half_match_value c.suffix_half.result c.suffix_half.ensures.answer

pub returns-in-ReverseSuffix-clause-within : goal.returns-in-ReverseSuffix-clause-within
returns-in-ReverseSuffix-clause-within c = c.suffix_half.ensures.within

pub returns-in-ReverseSuffix-clause-in_range : goal.returns-in-ReverseSuffix-clause-in_range
returns-in-ReverseSuffix-clause-in_range c =
    arm-range _ _ c.in-ReverseSuffix.is c.args.input.now (λ m. m.pattern) c.suffix_half.result c.suffix_half.ensures.in_range

pub returns-in-ReverseSuffix-clause-sure : goal.returns-in-ReverseSuffix-clause-sure
returns-in-ReverseSuffix-clause-sure c = arm-sure _ _ c.in-ReverseSuffix.is c.args.input.now c.suffix_half.ensures.sure

pub returns-in-ReverseSuffix-clause-cache : goal.returns-in-ReverseSuffix-clause-cache
returns-in-ReverseSuffix-clause-cache c = (by-suffix _ _ _ c.in-ReverseSuffix.is refl).serves _ c.suffix_half.ensures.cache

pub returns-in-ReverseSuffix-clause-memory : goal.returns-in-ReverseSuffix-clause-memory
returns-in-ReverseSuffix-clause-memory c =
    left-alike _ _ c.cache.view_is _ _ (by-suffix _ _ _ c.in-ReverseSuffix.is refl) _ c.suffix_half.ensures.memory

pub core_half-requires : goal.core_half-requires
core_half-requires c = lent-fits _ _ c.cache.view_is _ _ (by-core _ _ c.in-Core.is) c.requires

pub returns-in-Core-clause-answer : goal.returns-in-Core-clause-answer
returns-in-Core-clause-answer c = arm-answers _ _ c.in-Core.is c.args.input.now half_match_value c.core_half.result c.core_half.ensures.answer

pub returns-in-Core-clause-within : goal.returns-in-Core-clause-within
returns-in-Core-clause-within c = c.core_half.ensures.within

pub returns-in-Core-clause-in_range : goal.returns-in-Core-clause-in_range
returns-in-Core-clause-in_range c = arm-range _ _ c.in-Core.is c.args.input.now (λ m. m.pattern) c.core_half.result c.core_half.ensures.in_range

pub returns-in-Core-clause-sure : goal.returns-in-Core-clause-sure
returns-in-Core-clause-sure c = arm-sure _ _ c.in-Core.is c.args.input.now c.core_half.ensures.sure

pub returns-in-Core-clause-cache : goal.returns-in-Core-clause-cache
returns-in-Core-clause-cache c = (by-core _ _ c.in-Core.is).serves _ c.core_half.ensures.cache

pub returns-in-Core-clause-memory : goal.returns-in-Core-clause-memory
returns-in-Core-clause-memory c = left-alike _ _ c.cache.view_is _ _ (by-core _ _ c.in-Core.is) _ c.core_half.ensures.memory

pub inner_half-requires-clause-fits : goal.inner_half-requires-clause-fits
inner_half-requires-clause-fits c = lent-inner _ _ c.cache.view_is _ _ c.in-ReverseInner.is c.requires

pub inner_half-requires-clause-states_fit : goal.inner_half-requires-clause-states_fit
inner_half-requires-clause-states_fit c = lent-states _ _ c.cache.view_is _ _ c.in-ReverseInner.is c.requires

pub returns-in-ReverseInner-clause-answer : goal.returns-in-ReverseInner-clause-answer
returns-in-ReverseInner-clause-answer c =
    arm-answers _ _ c.in-ReverseInner.is c.args.input.now half_match_value c.inner_half.result c.inner_half.ensures.answer

pub returns-in-ReverseInner-clause-within : goal.returns-in-ReverseInner-clause-within
returns-in-ReverseInner-clause-within c = c.inner_half.ensures.within

pub returns-in-ReverseInner-clause-in_range : goal.returns-in-ReverseInner-clause-in_range
returns-in-ReverseInner-clause-in_range c =
    arm-range _ _ c.in-ReverseInner.is c.args.input.now (λ m. m.pattern) c.inner_half.result c.inner_half.ensures.in_range

pub returns-in-ReverseInner-clause-sure : goal.returns-in-ReverseInner-clause-sure
returns-in-ReverseInner-clause-sure c = arm-sure _ _ c.in-ReverseInner.is c.args.input.now c.inner_half.ensures.sure

pub returns-in-ReverseInner-clause-cache : goal.returns-in-ReverseInner-clause-cache
returns-in-ReverseInner-clause-cache c = serves-inner _ _ c.in-ReverseInner.is _ c.inner_half.ensures.cache c.inner_half.ensures.states_fit

pub returns-in-ReverseInner-clause-memory : goal.returns-in-ReverseInner-clause-memory
returns-in-ReverseInner-clause-memory c =
    left-inner _ _ c.cache.view_is _ _ c.in-ReverseInner.is _ _ c.inner_half.ensures.memory c.inner_half.ensures.states_same

pub returns-in-Pre-clause-answer : goal.returns-in-Pre-clause-answer
returns-in-Pre-clause-answer c =
    subst (λ (s : Strategy). IsAnswer (λ r. IsFor s r) (prefilter_in s) (kind_in s) c.args.input.now half_match_value c.search_half.result) (sym c.in-Pre.is)
    c.search_half.ensures.answer

pub returns-in-Pre-clause-within : goal.returns-in-Pre-clause-within
returns-in-Pre-clause-within c = c.search_half.ensures.within

pub returns-in-Pre-clause-in_range : goal.returns-in-Pre-clause-in_range
returns-in-Pre-clause-in_range c =
    subst (λ (s : Strategy). IfSome c.search_half.result (λ m. m.pattern < pattern_count s)) (sym c.in-Pre.is) c.search_half.ensures.in_range

pub returns-in-Pre-clause-cache : goal.returns-in-Pre-clause-cache
returns-in-Pre-clause-cache c = subst (λ (s : Strategy). Fits s c.args.cache.now) (sym c.in-Pre.is) tt

pub returns-in-Pre-clause-memory : goal.returns-in-Pre-clause-memory
returns-in-Pre-clause-memory c = subst (λ (s : Strategy). AccountsAlike s c.args.cache.now c.args.cache.now) (sym c.in-Pre.is) refl
