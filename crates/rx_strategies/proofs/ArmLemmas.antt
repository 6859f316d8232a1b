-- What a search answers in the arm of one strategy, said of the strategy that was matched.
use Rattle.std.proofs.Common.{◌≡◌, ℕ, ◌<◌, ◌≤◌, List, refl, sym, subst, true, true≢false}
use Rattle.std.specs.Prelude.{Bool, Option, None, Result, IfOk, IfSome}
use Rattle.std.specs.Result.{IfErr}
use Rattle.rx_model.specs.Search.{Patterns, Match}
use Rattle.rx_search.specs.Answer.{IsAnswer, AreSlotsOfAnswer, TellsWhether}
use Rattle.rx_search.specs.Input.{InputValue}
use Rattle.rx_search.specs.Matches.{MatchValue, match_value}
use Rattle.rx_search.specs.Promise.{Premises}
use Rattle.rx_search.specs.Sets.{AddsMatching, IsFilled, IsFilledFor}
use Rattle.rx_search.specs.declared.anchored.MatchKind.{MatchKind}
use Rattle.rx_hir.specs.declared.hir.properties.Properties.{Properties}
use Rattle.rx_dfa.specs.Search.{IsAnswerFor}
use Rattle.rx_limited.specs.declared.retry_error.RetryError.{RetryError}
use Rattle.rx_strategy.specs.Impossible.{IsKnownImpossible}
use Rattle.rx_strategy.specs.Strategy as core
use Rattle.rx_strategy.specs.declared.strategy.Strategy.{Strategy as CoreStrategy}
use Rattle.rx_strategies.specs.Attempting.{is_by_suffix, is_by_inner, SuffixFails, InnerFails, SuffixFailsWith, InnerFailsWith, CountsSuffix, CountsInner}
use Rattle.rx_strategies.specs.Attempts.{SuffixValue, InnerValue}
use Rattle.rx_strategies.specs.Cache.{CacheValue}
use Rattle.rx_strategies.specs.Strategy.{IsFor, kind_in, pattern_count, prefilter_in, properties_of}
use Rattle.rx_strategies.specs.declared.strategy.Strategy.{Strategy}
use Rattle.rx_strategies.specs.declared.strategy.Strategy.TheVariants.{Pre, Core, ReverseAnchored, ReverseSuffix, ReverseInner}

module _ (s k : Strategy) (is : s ≡ k) (v : InputValue) where
  pub arm-answers : {A E : Type 0} (part : Match → A) (result : Result (Option A) E)
      → IfOk result (IsAnswer (λ r. IsFor k r) (prefilter_in k) (kind_in k) v part)
      → IfOk result (IsAnswer (λ r. IsFor s r) (prefilter_in s) (kind_in s) v part)
  arm-answers part result given =
      subst (λ (t : Strategy). IfOk result (IsAnswer (λ r. IsFor t r) (prefilter_in t) (kind_in t) v part)) (sym is) given

  pub arm-slots : {A E : Type 0} (part : Match → A) (slots : List (Option ℕ)) (result : Result (Option A) E)
      → IfOk result (AreSlotsOfAnswer (λ r. IsFor k r) (prefilter_in k) (kind_in k) v part slots)
      → IfOk result (AreSlotsOfAnswer (λ r. IsFor s r) (prefilter_in s) (kind_in s) v part slots)
  arm-slots part slots result given =
      subst (λ (t : Strategy). IfOk result (AreSlotsOfAnswer (λ r. IsFor t r) (prefilter_in t) (kind_in t) v part slots)) (sym is) given

  pub arm-whether : {E : Type 0} (result : Result Bool E) → IfOk result (TellsWhether (λ r. IsFor k r) (prefilter_in k) v)
      → IfOk result (TellsWhether (λ r. IsFor s r) (prefilter_in s) v)
  arm-whether result given = subst (λ (t : Strategy). IfOk result (TellsWhether (λ r. IsFor t r) (prefilter_in t) v)) (sym is) given

  pub arm-range : {A E : Type 0} (pattern : A → ℕ) (result : Result (Option A) E)
      → IfOk result (λ o. IfSome o (λ m. pattern m < pattern_count k)) → IfOk result (λ o. IfSome o (λ m. pattern m < pattern_count s))
  arm-range pattern result given = subst (λ (t : Strategy). IfOk result (λ o. IfSome o (λ m. pattern m < pattern_count t))) (sym is) given

  pub arm-sure : {P : Type 0} → (IsKnownImpossible (properties_of k) v → P) → IsKnownImpossible (properties_of s) v → P
  arm-sure sure known = sure (subst (λ (t : Strategy). IsKnownImpossible (properties_of t) v) is known)

  pub arm-matching : (old new : List Bool) → AddsMatching (λ r. IsFor k r) (prefilter_in k) v old new
      → AddsMatching (λ r. IsFor s r) (prefilter_in s) v old new
  arm-matching old new given = subst (λ (t : Strategy). AddsMatching (λ r. IsFor t r) (prefilter_in t) v old new) (sym is) given

  pub arm-premises : {E : Type 0} (result : Result (Option MatchValue) E)
      → ((r : Patterns) → Premises (IsFor k r) None r v → IfOk result (IsAnswerFor (kind_in k) r v match_value))
      → (r : Patterns) → Premises (IsFor s r) None r v → IfOk result (IsAnswerFor (kind_in s) r v match_value)
  arm-premises result given =
      subst (λ (t : Strategy). (r : Patterns) → Premises (IsFor t r) None r v → IfOk result (IsAnswerFor (kind_in t) r v match_value)) (sym is) given

-- .. of an attempt by a literal that ends each match: why it has no answer, and how many steps one takes
module _ (s : Strategy) (k : SuffixValue) (is : s ≡ ReverseSuffix k) (v : InputValue) where
  pub arm-suffix-fails : {T : Type 0} (cache : CacheValue) (result : Result T RetryError) → IfErr result (SuffixFailsWith k v cache.rooms)
      → IfErr result (SuffixFails s v cache)
  arm-suffix-fails cache result given = subst (λ (t : Strategy). IfErr result (SuffixFails t v cache)) (sym is) given

  pub arm-suffix-counts : {E : Type 0} (old new : ℕ) (result : Result (Option MatchValue) E) → IfOk result (core.CountsSuffix k.core k.needles v old new)
      → IfOk result (CountsSuffix s v old new)
  arm-suffix-counts old new result given = subst (λ (t : Strategy). IfOk result (CountsSuffix t v old new)) (sym is) given

-- .. and by literals within each match
module _ (s : Strategy) (k : InnerValue) (is : s ≡ ReverseInner k) (v : InputValue) where
  pub arm-inner-fails : {T : Type 0} (cache : CacheValue) (result : Result T RetryError) → IfErr result (InnerFailsWith k v cache.rooms cache.prefix)
      → IfErr result (InnerFails s v cache)
  arm-inner-fails cache result given = subst (λ (t : Strategy). IfErr result (InnerFails t v cache)) (sym is) given

  pub arm-inner-counts : {E : Type 0} (old new : ℕ) (result : Result (Option MatchValue) E)
      → IfOk result (core.CountsInner k.core k.prefix k.needles v old new) → IfOk result (CountsInner s v old new)
  arm-inner-counts old new result given = subst (λ (t : Strategy). IfOk result (CountsInner t v old new)) (sym is) given

-- no other strategy searches so
pub not-by-suffix : {A : Type 0} (s : Strategy) → is_by_suffix s ≡ true → ((k : SuffixValue) → s ≡ ReverseSuffix k → ⊥) → A
not-by-suffix (Pre p) by other = absurd (true≢false (sym by))
not-by-suffix (Core c) by other = absurd (true≢false (sym by))
not-by-suffix (ReverseAnchored c) by other = absurd (true≢false (sym by))
not-by-suffix (ReverseSuffix k) by other = absurd (other k refl)
not-by-suffix (ReverseInner i) by other = absurd (true≢false (sym by))

pub not-by-inner : {A : Type 0} (s : Strategy) → is_by_inner s ≡ true → ((k : InnerValue) → s ≡ ReverseInner k → ⊥) → A
not-by-inner (Pre p) by other = absurd (true≢false (sym by))
not-by-inner (Core c) by other = absurd (true≢false (sym by))
not-by-inner (ReverseAnchored c) by other = absurd (true≢false (sym by))
not-by-inner (ReverseSuffix k) by other = absurd (true≢false (sym by))
not-by-inner (ReverseInner i) by other = absurd (other i refl)

-- The strategy is for patterns that this core is for, with what the core knows of them.
pub record OfCore (s : Strategy) (c : CoreStrategy) : Type 0 where
  pub patterns : (r : Patterns) → IsFor s r → core.IsFor c r
  pub needles : core.prefilter_in c ≡ prefilter_in s
  pub kind : core.kind_in c ≡ kind_in s
  pub count : core.pattern_count c ≡ pattern_count s
  pub properties : core.properties_of c ≡ properties_of s

pub of-core : (s : Strategy) (c : CoreStrategy) → s ≡ Core c → OfCore s c
of-core s c is =
    subst (λ (t : Strategy). OfCore t c) (sym is)
    (record { patterns = λ r of. of; needles = refl; kind = refl; count = refl; properties = refl })

pub of-anchored : (s : Strategy) (a c : CoreStrategy) → s ≡ ReverseAnchored a → c ≡ a → OfCore s c
of-anchored s a c is same =
    subst (λ (p : Strategy × CoreStrategy). OfCore p.0 p.1) (λ i. (sym is i, sym same i))
    (record { patterns = λ r of. of; needles = refl; kind = refl; count = refl; properties = refl })

pub of-suffix : (s : Strategy) (k : SuffixValue) (c : CoreStrategy) → s ≡ ReverseSuffix k → c ≡ k.core → OfCore s c
of-suffix s k c is same =
    subst (λ (p : Strategy × CoreStrategy). OfCore p.0 p.1) (λ i. (sym is i, sym same i))
    (record { patterns = λ r of. of.0; needles = refl; kind = refl; count = refl; properties = refl })

pub of-inner : (s : Strategy) (k : InnerValue) (c : CoreStrategy) → s ≡ ReverseInner k → c ≡ k.core → OfCore s c
of-inner s k c is same =
    subst (λ (p : Strategy × CoreStrategy). OfCore p.0 p.1) (λ i. (sym is i, sym same i))
    (record { patterns = λ r of. of.0; needles = refl; kind = refl; count = refl; properties = refl })

-- so what the core finds is what the strategy finds
module _ (s : Strategy) (c : CoreStrategy) (by : OfCore s c) (v : InputValue) where
  of-premises : (r : Patterns) → Premises (IsFor s r) (prefilter_in s) r v → Premises (core.IsFor c r) (core.prefilter_in c) r v
  of-premises r p =
      subst (λ (needles : Option (List (List ℕ))). Premises (core.IsFor c r) needles r v) (sym by.needles)
      (record { is_for = by.patterns r p.is_for; begins = p.begins; utf8 = p.utf8 })

  pub of-matching : (old new : List Bool) → AddsMatching (λ r. core.IsFor c r) (core.prefilter_in c) v old new
      → AddsMatching (λ r. IsFor s r) (prefilter_in s) v old new
  of-matching old new given r p = given r (of-premises r p)

  pub of-filled : (old new : List Bool) → IsFilled (λ r. core.IsFor c r) (core.prefilter_in c) v old new (core.kind_in c)
      → IsFilled (λ r. IsFor s r) (prefilter_in s) v old new (kind_in s)
  of-filled old new given r p = subst (λ (kind : MatchKind). IsFilledFor r v old new kind) by.kind (given r (of-premises r p))

  pub of-sure : {P : Type 0} → (IsKnownImpossible (core.properties_of c) v → P) → IsKnownImpossible (properties_of s) v → P
  of-sure sure known = sure (subst (λ (p : Properties). IsKnownImpossible p v) (sym by.properties) known)

  pub of-room : (n : ℕ) → pattern_count s ≤ n → core.pattern_count c ≤ n
  of-room n le = subst (λ (count : ℕ). count ≤ n) (sym by.count) le
