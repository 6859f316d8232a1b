-- What a strategy is to a contract: data by cases, one for each way to search.
use Rattle.std.specs.Prelude.{ℕ, ◌≤◌, Bool, List, length, Option, is_some}
use Rattle.rx_model.specs.Expression.{Expression}
use Rattle.rx_model.specs.Search.{Patterns, Match}
use Rattle.rx_search.specs.Input.{InputValue}
use Rattle.rx_search.specs.Limits.{id_limit}
use Rattle.rx_search.specs.Told.{tells}
use Rattle.rx_search.specs.declared.anchored.MatchKind.{MatchKind}
use Rattle.rx_hir.specs.declared.hir.properties.Properties.{Properties}
use Rattle.rx_search.specs.Matches.{MatchValue}
use Rattle.rx_limited.specs.declared.retry_error.RetryError.{RetryError}
use Rattle.rx_strategy.specs.Attempts.{SuffixFailsIn, InnerFailsIn, HasCountedSuffix, HasCountedInner}
use Rattle.rx_strategy.specs.Cache.{CacheValue}
use Rattle.rx_strategy.specs.Core.{IsCoreFor, IsCoreOf, core_finds, core_memory}
use Rattle.rx_strategy.specs.Dfas.{tables_memory, are_lazy, pair_of}
use Rattle.rx_strategy.specs.Ending.{is_fast_by}
use Rattle.rx_strategy.specs.OnePass.{onepass_memory}
use Rattle.rx_strategy.specs.Prefix.{PrefixValue, dfa_of, prefix_gives_up, prefix_wants}
use Rattle.rx_dfa.specs.declared.lazy.lazy_cache.LazyCache.{LazyCache}
use Rattle.rx_strategy.specs.declared.config.Config.{Config}
use Rattle.rx_strategy.specs.declared.strategy.Strategy.{Strategy}
use Rattle.rx_strategy.specs.declared.strategy.Strategy.TheVariants.{Core}

-- the strategy searches for these patterns
abbrev pub IsFor : Strategy → Patterns → Type 0
IsFor (Core core) r = IsCoreFor core r

-- which of the matches that begin at one place is reported
abbrev pub kind_in : Strategy → MatchKind
kind_in (Core core) = core.kind

-- what a search of the strategy finds, where matches are told
abbrev pub finds : Strategy → InputValue → Option Match
finds (Core core) v = core_finds core v

-- the groups of each pattern, by their names
abbrev pub groups_in : Strategy → List (List (Option (List ℕ)))
groups_in (Core core) = core.nfa.groups

abbrev pub pattern_count : Strategy → ℕ
pattern_count (Core core) = length core.nfa.starts

-- the properties of the patterns together
abbrev pub properties_of : Strategy → Properties
properties_of (Core core) = core.properties

-- the needles of its prefilter, if it has one
abbrev pub prefilter_in : Strategy → Option (List (List ℕ))
prefilter_in (Core core) = core.pre

-- The bytes that are accounted for the strategy itself, up to the greatest number of 64 bits: those of its prefilter, those of each
-- accounted state of its NFAs, in both directions where DFAs are asked for, and those of the tables of its one-pass DFA and its full DFAs.
abbrev pub strategy_memory : Strategy → ℕ
strategy_memory (Core core) = core_memory core

-- what is accounted for the table of its one-pass DFA, if it has one
abbrev pub onepass_in : Strategy → ℕ
onepass_in (Core core) = onepass_memory core.onepass.dfa

-- which is there
abbrev pub has_onepass : Strategy → Bool
has_onepass (Core core) = is_some core.onepass.dfa

-- what is accounted for the tables of its full DFAs, if it has some
abbrev pub tables_in : Strategy → ℕ
tables_in (Core core) = tables_memory core.dfas

-- it has lazy DFAs
abbrev pub has_lazy : Strategy → Bool
has_lazy (Core core) = are_lazy core.dfas

-- matches are told
abbrev pub tells_in : Strategy → Bool
tells_in (Core core) = tells core.which_captures

-- there are DFAs
abbrev pub has_dfas : Strategy → Bool
has_dfas (Core core) = is_some (pair_of core.dfas)

-- it has a prefilter that is expected to be fast
abbrev pub is_accelerated : Strategy → Bool
is_accelerated (Core core) = is_fast_by core.pre

-- there are no more patterns than identifiers tell apart
abbrev pub IsFew : Strategy → Type 0
IsFew s = pattern_count s ≤ id_limit

-- there is a backtracker
abbrev pub backtracks : Strategy → Bool
backtracks (Core core) = core.backtracks

-- the strategy that is made of these expressions under the configuration
abbrev pub IsMadeOf : Config → List Expression → Strategy → Type 0
IsMadeOf config hs (Core core) = IsCoreOf config hs core

-- why an attempt by a suffix has no answer, and one by literals within, with this DFA of the prefix
abbrev pub SuffixFailsFor : Strategy → List (List ℕ) → InputValue → CacheValue → RetryError → Type 0
SuffixFailsFor (Core core) needles v cache error = SuffixFailsIn core.dfas needles v cache.lazies error

abbrev pub InnerFailsFor : Strategy → PrefixValue → List (List ℕ) → InputValue → CacheValue → Option LazyCache → RetryError → Type 0
InnerFailsFor (Core core) prefix needles v cache states error =
    InnerFailsIn core.dfas (dfa_of prefix) needles v cache.lazies (prefix_gives_up prefix.sort states) (prefix_wants prefix.sort) error

-- and how many steps an answer takes
abbrev pub CountsSuffix : Strategy → List (List ℕ) → InputValue → (old new : ℕ) → Option MatchValue → Type 0
CountsSuffix (Core core) needles v old new found = HasCountedSuffix core.dfas needles v old new found

abbrev pub CountsInner : Strategy → PrefixValue → List (List ℕ) → InputValue → (old new : ℕ) → Option MatchValue → Type 0
CountsInner (Core core) prefix needles v old new found = HasCountedInner core.dfas (dfa_of prefix) needles v old new found
