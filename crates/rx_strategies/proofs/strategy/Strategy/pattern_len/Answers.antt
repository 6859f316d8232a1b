use Rattle.std.proofs.Common.{ℕ, ◌≤◌, ◌∙◌, subst}
use Rattle.rx_search.specs.Limits.{id_limit}
use Rattle.rx_strategies.proofs.ArmLemmas.{of-core, of-anchored, of-suffix, of-inner}
use Rattle.rx_strategies.proofs.strategy.Strategy.pattern_len.Goals as goal

pub returns-in-ReverseAnchored-clause-value : goal.returns-in-ReverseAnchored-clause-value
returns-in-ReverseAnchored-clause-value c = c.pattern_len.ensures.value ∙ (of-anchored _ _ _ c.in-ReverseAnchored.is c.core.ensures).count

pub returns-in-ReverseAnchored-clause-patterns : goal.returns-in-ReverseAnchored-clause-patterns
returns-in-ReverseAnchored-clause-patterns c r for =
    c.pattern_len.ensures.patterns r ((of-anchored _ _ _ c.in-ReverseAnchored.is c.core.ensures).patterns r for)

pub returns-in-ReverseAnchored-clause-few : goal.returns-in-ReverseAnchored-clause-few
returns-in-ReverseAnchored-clause-few c =
    subst (λ (n : ℕ). n ≤ id_limit) (of-anchored _ _ _ c.in-ReverseAnchored.is c.core.ensures).count c.pattern_len.ensures.few

pub returns-in-ReverseSuffix-clause-value : goal.returns-in-ReverseSuffix-clause-value
returns-in-ReverseSuffix-clause-value c =
    c.pattern_len-in-ReverseSuffix.ensures.value ∙ (of-suffix _ _ _ c.in-ReverseSuffix.is c.core-in-ReverseSuffix.ensures).count

pub returns-in-ReverseSuffix-clause-patterns : goal.returns-in-ReverseSuffix-clause-patterns
returns-in-ReverseSuffix-clause-patterns c r for =
    c.pattern_len-in-ReverseSuffix.ensures.patterns r ((of-suffix _ _ _ c.in-ReverseSuffix.is c.core-in-ReverseSuffix.ensures).patterns r for)

pub returns-in-ReverseSuffix-clause-few : goal.returns-in-ReverseSuffix-clause-few
returns-in-ReverseSuffix-clause-few c =
    subst (λ (n : ℕ). n ≤ id_limit) (of-suffix _ _ _ c.in-ReverseSuffix.is c.core-in-ReverseSuffix.ensures).count c.pattern_len-in-ReverseSuffix.ensures.few

pub returns-in-ReverseInner-clause-value : goal.returns-in-ReverseInner-clause-value
returns-in-ReverseInner-clause-value c =
    c.pattern_len-in-ReverseInner.ensures.value ∙ (of-inner _ _ _ c.in-ReverseInner.is c.core-in-ReverseInner.ensures).count

pub returns-in-ReverseInner-clause-patterns : goal.returns-in-ReverseInner-clause-patterns
returns-in-ReverseInner-clause-patterns c r for =
    c.pattern_len-in-ReverseInner.ensures.patterns r ((of-inner _ _ _ c.in-ReverseInner.is c.core-in-ReverseInner.ensures).patterns r for)

pub returns-in-ReverseInner-clause-few : goal.returns-in-ReverseInner-clause-few
returns-in-ReverseInner-clause-few c =
    subst (λ (n : ℕ). n ≤ id_limit) (of-inner _ _ _ c.in-ReverseInner.is c.core-in-ReverseInner.ensures).count c.pattern_len-in-ReverseInner.ensures.few

pub returns-in-Core-clause-value : goal.returns-in-Core-clause-value
returns-in-Core-clause-value c = c.pattern_len-in-Core.ensures.value ∙ (of-core _ _ c.in-Core.is).count

pub returns-in-Core-clause-patterns : goal.returns-in-Core-clause-patterns
returns-in-Core-clause-patterns c r for = c.pattern_len-in-Core.ensures.patterns r ((of-core _ _ c.in-Core.is).patterns r for)

pub returns-in-Core-clause-few : goal.returns-in-Core-clause-few
returns-in-Core-clause-few c = subst (λ (n : ℕ). n ≤ id_limit) (of-core _ _ c.in-Core.is).count c.pattern_len-in-Core.ensures.few
