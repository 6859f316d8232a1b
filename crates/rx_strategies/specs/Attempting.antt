-- Attempts of a strategy that searches by candidates: which one it is, why an attempt has no answer, and how many steps one takes.
use Rattle.std.specs.Prelude.{ℕ, Bool, true, false, ◌&&◌, Option, IsSomeAnd}
use Rattle.rx_search.specs.Input.{InputValue}
use Rattle.rx_search.specs.Matches.{MatchValue}
use Rattle.rx_dfa.specs.declared.lazy.lazy_cache.LazyCache.{LazyCache}
use Rattle.rx_limited.specs.declared.retry_error.RetryError.{RetryError}
use Rattle.rx_strategy.specs.Cache as lower
use Rattle.rx_strategy.specs.Prefix.{are_states}
use Rattle.rx_strategy.specs.Strategy as core
use Rattle.rx_strategies.specs.Attempts.{SuffixValue, InnerValue}
use Rattle.rx_strategies.specs.Cache.{CacheValue}
use Rattle.rx_strategies.specs.declared.strategy.Strategy.{Strategy}
use Rattle.rx_strategies.specs.declared.strategy.Strategy.TheVariants.{Pre, Core, ReverseAnchored, ReverseSuffix, ReverseInner}

-- it searches by a literal that ends each match
abbrev pub is_by_suffix : Strategy → Bool
is_by_suffix (Pre p) = false
is_by_suffix (Core c) = false
is_by_suffix (ReverseAnchored c) = false
is_by_suffix (ReverseSuffix s) = true
is_by_suffix (ReverseInner i) = false

-- it searches by literals within each match
abbrev pub is_by_inner : Strategy → Bool
is_by_inner (Pre p) = false
is_by_inner (Core c) = false
is_by_inner (ReverseAnchored c) = false
is_by_inner (ReverseSuffix s) = false
is_by_inner (ReverseInner i) = true

-- each of its DFAs is a lazy one, and there are some
abbrev pub are_all_lazy : Strategy → Bool
are_all_lazy (Pre p) = false
are_all_lazy (Core c) = core.has_lazy c
are_all_lazy (ReverseAnchored c) = core.has_lazy c
are_all_lazy (ReverseSuffix s) = core.has_lazy s.core
are_all_lazy (ReverseInner i) = core.has_lazy i.core && are_states i.prefix

-- why an attempt has no answer, by what the cache of the core then holds
abbrev pub SuffixFailsWith : SuffixValue → InputValue → Option lower.CacheValue → RetryError → Type 0
SuffixFailsWith s v rooms error = IsSomeAnd rooms (λ cache. core.SuffixFailsFor s.core s.needles v cache error)

-- .. and by that of what reads the prefix
abbrev pub InnerFailsWith : InnerValue → InputValue → Option lower.CacheValue → Option LazyCache → RetryError → Type 0
InnerFailsWith i v rooms states error = IsSomeAnd rooms (λ cache. core.InnerFailsFor i.core i.prefix i.needles v cache states error)

-- why an attempt by a literal that ends each match has no answer; only a strategy that searches so makes one
abbrev pub SuffixFails : Strategy → InputValue → CacheValue → RetryError → Type 0
SuffixFails (Pre p) v cache error = ⊥
SuffixFails (Core c) v cache error = ⊥
SuffixFails (ReverseAnchored c) v cache error = ⊥
SuffixFails (ReverseSuffix s) v cache error = SuffixFailsWith s v cache.rooms error
SuffixFails (ReverseInner i) v cache error = ⊥

-- .. and one by literals within each match
abbrev pub InnerFails : Strategy → InputValue → CacheValue → RetryError → Type 0
InnerFails (Pre p) v cache error = ⊥
InnerFails (Core c) v cache error = ⊥
InnerFails (ReverseAnchored c) v cache error = ⊥
InnerFails (ReverseSuffix s) v cache error = ⊥
InnerFails (ReverseInner i) v cache error = InnerFailsWith i v cache.rooms cache.prefix error

-- so many steps an answer takes
abbrev pub CountsSuffix : Strategy → InputValue → (old new : ℕ) → Option MatchValue → Type 0
CountsSuffix (Pre p) v old new found = ⊥
CountsSuffix (Core c) v old new found = ⊥
CountsSuffix (ReverseAnchored c) v old new found = ⊥
CountsSuffix (ReverseSuffix s) v old new found = core.CountsSuffix s.core s.needles v old new found
CountsSuffix (ReverseInner i) v old new found = ⊥

abbrev pub CountsInner : Strategy → InputValue → (old new : ℕ) → Option MatchValue → Type 0
CountsInner (Pre p) v old new found = ⊥
CountsInner (Core c) v old new found = ⊥
CountsInner (ReverseAnchored c) v old new found = ⊥
CountsInner (ReverseSuffix s) v old new found = ⊥
CountsInner (ReverseInner i) v old new found = core.CountsInner i.core i.prefix i.needles v old new found
