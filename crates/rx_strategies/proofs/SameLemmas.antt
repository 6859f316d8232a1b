-- What is told of a core, said of the strategy that holds it: that one is seen by its parts.
use Rattle.std.proofs.Common.{◌≡◌, ℕ, ◌<◌, List, sym, subst, true}
use Rattle.std.specs.Prelude.{Bool, Option, Result, IfOk, IfSome}
use Rattle.rx_model.specs.Search.{Match}
use Rattle.rx_search.specs.Answer.{IsAnswer, AreSlotsOfAnswer, TellsWhether}
use Rattle.rx_search.specs.Input.{InputValue}
use Rattle.rx_strategy.specs.Cache.{CacheValue, Fits, AccountsAlike}
use Rattle.rx_strategy.specs.Impossible.{IsKnownImpossible}
use Rattle.rx_strategy.specs.Strategy.{IsFor, kind_in, pattern_count, prefilter_in, properties_of, tells_in}
use Rattle.rx_strategy.specs.declared.strategy.Strategy.{Strategy}
use Rattle.rx_strategy.specs.declared.strategy.Strategy.TheVariants.{Core}
use Rattle.rx_strategy.proofs.CacheLemmas.{alike-then}

-- one search after another
pub alike-twice : (s : Strategy) (old middle new : CacheValue) → AccountsAlike s old middle → AccountsAlike s middle new → AccountsAlike s old new
alike-twice (Core c) old middle new first second = alike-then c old middle new first second

module _ (k s : Strategy) (same : k ≡ s) where
  pub asked-fits : (cache : CacheValue) → Fits s cache → Fits k cache
  asked-fits cache fits = subst (λ (t : Strategy). Fits t cache) (sym same) fits

  pub asked-told : tells_in s ≡ true → tells_in k ≡ true
  asked-told told = subst (λ (t : Strategy). tells_in t ≡ true) (sym same) told

  pub asked-range : {A E : Type 0} (pattern : A → ℕ) (result : Result (Option A) E)
      → IfOk result (λ o. IfSome o (λ m. pattern m < pattern_count s)) → IfOk result (λ o. IfSome o (λ m. pattern m < pattern_count k))
  asked-range pattern result given = subst (λ (t : Strategy). IfOk result (λ o. IfSome o (λ m. pattern m < pattern_count t))) (sym same) given

  pub same-fits : (cache : CacheValue) → Fits k cache → Fits s cache
  same-fits cache fits = subst (λ (t : Strategy). Fits t cache) same fits

  pub same-alike : (old new : CacheValue) → AccountsAlike k old new → AccountsAlike s old new
  same-alike old new alike = subst (λ (t : Strategy). AccountsAlike t old new) same alike

  pub same-twice : (old middle new : CacheValue) → AccountsAlike s old middle → AccountsAlike k middle new → AccountsAlike s old new
  same-twice old middle new first second = alike-twice s old middle new first (same-alike middle new second)

  pub same-answers : {A E : Type 0} (v : InputValue) (part : Match → A) (result : Result (Option A) E)
      → IfOk result (IsAnswer (λ r. IsFor k r) (prefilter_in k) (kind_in k) v part)
      → IfOk result (IsAnswer (λ r. IsFor s r) (prefilter_in s) (kind_in s) v part)
  same-answers v part result given =
      subst (λ (t : Strategy). IfOk result (IsAnswer (λ r. IsFor t r) (prefilter_in t) (kind_in t) v part)) same given

  pub same-slots : {A E : Type 0} (v : InputValue) (part : Match → A) (slots : List (Option ℕ)) (result : Result (Option A) E)
      → IfOk result (AreSlotsOfAnswer (λ r. IsFor k r) (prefilter_in k) (kind_in k) v part slots)
      → IfOk result (AreSlotsOfAnswer (λ r. IsFor s r) (prefilter_in s) (kind_in s) v part slots)
  same-slots v part slots result given =
      subst (λ (t : Strategy). IfOk result (AreSlotsOfAnswer (λ r. IsFor t r) (prefilter_in t) (kind_in t) v part slots)) same given

  pub same-whether : {E : Type 0} (v : InputValue) (result : Result Bool E) → IfOk result (TellsWhether (λ r. IsFor k r) (prefilter_in k) v)
      → IfOk result (TellsWhether (λ r. IsFor s r) (prefilter_in s) v)
  same-whether v result given = subst (λ (t : Strategy). IfOk result (TellsWhether (λ r. IsFor t r) (prefilter_in t) v)) same given

  pub same-range : {A E : Type 0} (pattern : A → ℕ) (result : Result (Option A) E)
      → IfOk result (λ o. IfSome o (λ m. pattern m < pattern_count k)) → IfOk result (λ o. IfSome o (λ m. pattern m < pattern_count s))
  same-range pattern result given = subst (λ (t : Strategy). IfOk result (λ o. IfSome o (λ m. pattern m < pattern_count t))) same given

  pub same-sure : {P : Type 0} (v : InputValue) → (IsKnownImpossible (properties_of k) v → P) → IsKnownImpossible (properties_of s) v → P
  same-sure v sure known = sure (subst (λ (t : Strategy). IsKnownImpossible (properties_of t) v) (sym same) known)
