-- What a refusal of an attempt tells of its places.
use Rattle.std.proofs.Common.{◌≡◌, ℕ, ◌<◌, List, sym, subst, inl, inr}
use Rattle.std.specs.Prelude.{◌⊎◌, Option, Some, None}
use Rattle.rx_search.specs.Input.{InputValue}
use Rattle.rx_search.specs.declared.span.Span.{Span}
use Rattle.rx_dfa.specs.Automaton.{Dfa}
use Rattle.rx_dfa.specs.declared.lazy.lazy_cache.LazyCache.{LazyCache}
use Rattle.rx_limited.specs.declared.retry_error.Quadratic.{Quadratic as Met}
use Rattle.rx_limited.specs.declared.retry_error.Quadratic.TheVariants.{Below, AtStart, Candidate}
use Rattle.rx_limited.specs.declared.retry_error.RetryError.{RetryError}
use Rattle.rx_limited.specs.declared.retry_error.RetryError.TheVariants.{Quadratic, Fail, Memory}
use Rattle.rx_attempts.specs.Refusals as lower
use Rattle.rx_strategy.specs.Attempts.{SuffixFailsIn, InnerFailsIn}
use Rattle.rx_strategy.specs.Cache.{CacheValue as RoomsValue}
use Rattle.rx_strategy.specs.Prefix.{PrefixValue}
use Rattle.rx_strategy.specs.Strategy.{SuffixFailsFor, InnerFailsFor}
use Rattle.rx_strategy.specs.declared.dfas.Dfas.{Dfas}
use Rattle.rx_strategy.specs.declared.dfas.Dfas.TheVariants.{Absent, Full, Lazy}
use Rattle.rx_strategy.specs.declared.lazies.Lazies.{Lazies}
use Rattle.rx_strategy.specs.declared.strategy.Strategy.{Strategy as CoreStrategy}
use Rattle.rx_strategy.specs.declared.strategy.Strategy.TheVariants.{Core as TheCore}
use Rattle.rx_strategies.specs.Attempting.{SuffixFailsWith, InnerFailsWith}
use Rattle.rx_strategies.specs.Attempting as strategy
use Rattle.rx_strategies.specs.Attempts.{SuffixValue, InnerValue}
use Rattle.rx_strategies.specs.declared.strategy.Strategy.{Strategy}
use Rattle.rx_strategies.specs.declared.strategy.Strategy.TheVariants.{Pre, Core, ReverseAnchored, ReverseSuffix, ReverseInner}
use Rattle.rx_meta.specs.Attempts.{IsMetIn, SuffixFails, InnerFails}
use Rattle.rx_meta.specs.Cache.{CacheValue}
use Rattle.rx_meta.specs.Regex.{RegexValue}

-- of any automata

back-met : (rev : Dfa) (needles : List (List ℕ)) (v : InputValue) (place : Span → ℕ) (NoneBefore : ℕ → Type 0) (met : Met)
    → lower.IsRefusedBack rev needles v place NoneBefore met → IsMetIn v (Quadratic met)
back-met rev needles v place NoneBefore (Below at min_start) is =
    let below = is.refused.1 in (below.inside, subst (λ n. at < n) (sym is.refused.0) below.under)
back-met rev needles v place NoneBefore (AtStart found) is = is.refused.later
back-met rev needles v place NoneBefore (Candidate start stopped) is = absurd is.refused

reread-met : (fwd rev : Dfa) (needles : List (List ℕ)) (v : InputValue) (met : Met) → lower.RereadsBy fwd rev needles v met → IsMetIn v (Quadratic met)
reread-met fwd rev needles v (Below at min_start) is = absurd is
reread-met fwd rev needles v (AtStart found) is = absurd is
reread-met fwd rev needles v (Candidate start stopped) is = is.under

module _ (fwd rev : Dfa) (needles : List (List ℕ)) (v : InputValue) (gives_up wants rev_gives_up rev_wants : Type 0) where
  suffix-met : (error : RetryError) → lower.SuffixFails fwd rev needles v gives_up wants rev_gives_up rev_wants error → IsMetIn v error
  suffix-met (Quadratic met) is = back-met rev needles v _ _ met is
  suffix-met (Fail offset) is = tt
  suffix-met Memory is = tt

  inner-met : (error : RetryError) → lower.InnerFails fwd rev needles v gives_up wants rev_gives_up rev_wants error → IsMetIn v error
  inner-met (Quadratic met) is =
      elim is [ inl back ↦ back-met rev needles v _ _ met back | inr again ↦ reread-met fwd rev needles v met again ]
  inner-met (Fail offset) is = tt
  inner-met Memory is = tt

-- of the DFAs of a core

suffix-met-in : (dfas : Dfas) (needles : List (List ℕ)) (v : InputValue) (lazies : Option Lazies) (error : RetryError)
    → SuffixFailsIn dfas needles v lazies error → IsMetIn v error
suffix-met-in Absent needles v lazies error is = absurd is
suffix-met-in (Full forward backward) needles v lazies error is = suffix-met forward.dfa backward.dfa needles v _ _ _ _ error is
suffix-met-in (Lazy forward backward) needles v None error is = absurd is
suffix-met-in (Lazy forward backward) needles v (Some both) error is = suffix-met forward.dfa backward.dfa needles v _ _ _ _ error is

inner-met-in : (dfas : Dfas) (rev : Dfa) (needles : List (List ℕ)) (v : InputValue) (lazies : Option Lazies) (rev_gives_up rev_wants : Type 0)
    (error : RetryError) → InnerFailsIn dfas rev needles v lazies rev_gives_up rev_wants error → IsMetIn v error
inner-met-in Absent rev needles v lazies rev_gives_up rev_wants error is = absurd is
inner-met-in (Full forward backward) rev needles v lazies rev_gives_up rev_wants error is =
    inner-met forward.dfa rev needles v _ _ rev_gives_up rev_wants error is
inner-met-in (Lazy forward backward) rev needles v None rev_gives_up rev_wants error is = absurd is
inner-met-in (Lazy forward backward) rev needles v (Some both) rev_gives_up rev_wants error is =
    inner-met forward.dfa rev needles v _ _ rev_gives_up rev_wants error is

suffix-met-for : (c : CoreStrategy) (needles : List (List ℕ)) (v : InputValue) (cache : RoomsValue) (error : RetryError)
    → SuffixFailsFor c needles v cache error → IsMetIn v error
suffix-met-for (TheCore core) needles v cache error is = suffix-met-in core.dfas needles v cache.lazies error is

inner-met-for : (c : CoreStrategy) (prefix : PrefixValue) (needles : List (List ℕ)) (v : InputValue) (cache : RoomsValue) (states : Option LazyCache)
    (error : RetryError) → InnerFailsFor c prefix needles v cache states error → IsMetIn v error
inner-met-for (TheCore core) prefix needles v cache states error is = inner-met-in core.dfas _ needles v cache.lazies _ _ error is

-- of a strategy

suffix-met-with : (s : SuffixValue) (v : InputValue) (rooms : Option RoomsValue) (error : RetryError) → SuffixFailsWith s v rooms error → IsMetIn v error
suffix-met-with s v None error is = absurd is
suffix-met-with s v (Some cache) error is = suffix-met-for s.core s.needles v cache error is

inner-met-with : (i : InnerValue) (v : InputValue) (rooms : Option RoomsValue) (states : Option LazyCache) (error : RetryError)
    → InnerFailsWith i v rooms states error → IsMetIn v error
inner-met-with i v None states error is = absurd is
inner-met-with i v (Some cache) states error is = inner-met-for i.core i.prefix i.needles v cache states error is

pub suffix-tells : (regex : RegexValue) (v : InputValue) (cache : CacheValue) (error : RetryError) → SuffixFails regex v cache error → IsMetIn v error
unfolding SuffixFails
suffix-tells regex v cache error is = by-strategy regex.strategy is
  where
    by-strategy : (s : Strategy) → strategy.SuffixFails s v cache.rooms error → IsMetIn v error
    by-strategy (Pre p) is = absurd is
    by-strategy (Core c) is = absurd is
    by-strategy (ReverseAnchored c) is = absurd is
    by-strategy (ReverseSuffix s) is = suffix-met-with s v cache.rooms.rooms error is
    by-strategy (ReverseInner i) is = absurd is

pub inner-tells : (regex : RegexValue) (v : InputValue) (cache : CacheValue) (error : RetryError) → InnerFails regex v cache error → IsMetIn v error
unfolding InnerFails
inner-tells regex v cache error is = by-strategy regex.strategy is
  where
    by-strategy : (s : Strategy) → strategy.InnerFails s v cache.rooms error → IsMetIn v error
    by-strategy (Pre p) is = absurd is
    by-strategy (Core c) is = absurd is
    by-strategy (ReverseAnchored c) is = absurd is
    by-strategy (ReverseSuffix s) is = absurd is
    by-strategy (ReverseInner i) is = inner-met-with i v cache.rooms.rooms cache.rooms.prefix error is
