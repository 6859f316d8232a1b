-- What a strategy is to a contract: data by cases, one for each way to search.
use Rattle.std.specs.Prelude.{◌≡◌, ℕ, ◌+◌, ◌-◌, ◌*◌, ◌^◌, ◌≤◌, min, Bool, true, false, ◌||◌, List, Option, Some, None, Result, Ok, Err, codes}
use Rattle.rx_model.specs.Expression.{Expression, alternation}
use Rattle.rx_model.specs.Search.{Patterns, Match}
use Rattle.rx_search.specs.Input.{InputValue}
use Rattle.rx_search.specs.Limits.{id_limit}
use Rattle.rx_search.specs.PatternGroups.{pattern_groups}
use Rattle.rx_search.specs.Told.{tells}
use Rattle.rx_search.specs.declared.anchored.MatchKind.{MatchKind}
use Rattle.rx_search.specs.declared.anchored.MatchKind.TheVariants.{LeftmostFirst}
use Rattle.rx_hir.specs.Normal.{expressions}
use Rattle.rx_hir.specs.PropertiesViews.{AreOf}
use Rattle.rx_hir.specs.declared.hir.properties.Properties.{Properties}
use Rattle.rx_prefilter.specs.Choices.{accounted, chosen, is_fast}
use Rattle.rx_prefilter.specs.declared.choice.Choice.{Choice}
use Rattle.rx_prefilter.specs.declared.choice.Choice.TheVariants.{Memchr, Memchr2, Memchr3, Memmem, Multi, ByteSet, AhoCorasick}
use Rattle.rx_pre.specs.Pre.{PreValue, IsPreFor}
use Rattle.rx_pre.specs.Pre as pre
use Rattle.rx_pre.specs.Whole.{AreWholeOf}
use Rattle.rx_strategy.specs.Config.{captures_of}
use Rattle.rx_strategy.specs.Strategy as core
use Rattle.rx_strategy.specs.declared.config.Config.{Config}
use Rattle.rx_strategy.specs.declared.strategy.Strategy.{Strategy as CoreStrategy}
use Rattle.rx_strategy.specs.Prefix.{prefix_memory, table_of, are_states}
use Rattle.rx_strategies.specs.Attempts.{SuffixValue, InnerValue, IsSuffixFor, IsInnerFor, IsSuffixOf, IsInnerOf, HasNoInner}
use Rattle.rx_strategies.specs.Choice.{literals_for, is_from_end, suffix_for, inner_for}
use Rattle.rx_strategies.specs.declared.strategy.Strategy.{Strategy}
use Rattle.rx_strategies.specs.declared.strategy.Strategy.TheVariants.{Pre, Core, ReverseAnchored, ReverseSuffix, ReverseInner}

-- the strategy searches for these patterns
abbrev pub IsFor : Strategy → Patterns → Type 0
IsFor (Pre p) r = IsPreFor p r
IsFor (Core c) r = core.IsFor c r
IsFor (ReverseAnchored c) r = core.IsFor c r
IsFor (ReverseSuffix s) r = IsSuffixFor s r
IsFor (ReverseInner i) r = IsInnerFor i r

-- which of the matches that begin at one place is reported
abbrev pub kind_in : Strategy → MatchKind
kind_in (Pre p) = LeftmostFirst
kind_in (Core c) = core.kind_in c
kind_in (ReverseAnchored c) = core.kind_in c
kind_in (ReverseSuffix s) = core.kind_in s.core
kind_in (ReverseInner i) = core.kind_in i.core

-- what a search of the strategy finds, where matches are told
abbrev pub finds : Strategy → InputValue → Option Match
finds (Pre p) v = pre.finds p v
finds (Core c) v = core.finds c v
finds (ReverseAnchored c) v = core.finds c v
finds (ReverseSuffix s) v = core.finds s.core v
finds (ReverseInner i) v = core.finds i.core v

-- the groups of each pattern, by their names
abbrev pub groups_in : Strategy → List (List (Option (List ℕ)))
groups_in (Pre p) = p.groups
groups_in (Core c) = core.groups_in c
groups_in (ReverseAnchored c) = core.groups_in c
groups_in (ReverseSuffix s) = core.groups_in s.core
groups_in (ReverseInner i) = core.groups_in i.core

abbrev pub pattern_count : Strategy → ℕ
pattern_count (Pre p) = 1
pattern_count (Core c) = core.pattern_count c
pattern_count (ReverseAnchored c) = core.pattern_count c
pattern_count (ReverseSuffix s) = core.pattern_count s.core
pattern_count (ReverseInner i) = core.pattern_count i.core

-- the properties of the patterns together
abbrev pub properties_of : Strategy → Properties
properties_of (Pre p) = p.properties
properties_of (Core c) = core.properties_of c
properties_of (ReverseAnchored c) = core.properties_of c
properties_of (ReverseSuffix s) = core.properties_of s.core
properties_of (ReverseInner i) = core.properties_of i.core

-- The needles with which each match is known to begin, if there are some. A search for literals needs no such knowledge.
abbrev pub prefilter_in : Strategy → Option (List (List ℕ))
prefilter_in (Pre p) = None
prefilter_in (Core c) = core.prefilter_in c
prefilter_in (ReverseAnchored c) = core.prefilter_in c
prefilter_in (ReverseSuffix s) = core.prefilter_in s.core
prefilter_in (ReverseInner i) = core.prefilter_in i.core

-- What is accounted for the properties of each pattern and of all of them, and for the core, up to the greatest number of 64 bits.
abbrev pub core_memory : CoreStrategy → ℕ
core_memory c = min (2 ^ 64 - 1) (64 * (core.pattern_count c + 1) + core.strategy_memory c)

-- .. and for the search for a literal at the end of each match
abbrev pub suffix_memory : SuffixValue → ℕ
suffix_memory s = min (2 ^ 64 - 1) (core_memory s.core + accounted (chosen s.needles) s.needles)

-- .. and for the search for literals within each match, with what reads the prefix backwards
abbrev pub inner_memory : InnerValue → ℕ
inner_memory i = min (2 ^ 64 - 1) (core_memory i.core + accounted (chosen i.needles) i.needles + prefix_memory i.prefix)

-- what is accounted for the strategy itself: for a search for literals, what is accounted for that search
abbrev pub strategy_memory : Strategy → ℕ
strategy_memory (Pre p) = accounted (chosen p.needles) p.needles
strategy_memory (Core c) = core_memory c
strategy_memory (ReverseAnchored c) = core_memory c
strategy_memory (ReverseSuffix s) = suffix_memory s
strategy_memory (ReverseInner i) = inner_memory i

-- what is accounted for the table of its one-pass DFA, if it has one
abbrev pub onepass_in : Strategy → ℕ
onepass_in (Pre p) = 0
onepass_in (Core c) = core.onepass_in c
onepass_in (ReverseAnchored c) = core.onepass_in c
onepass_in (ReverseSuffix s) = core.onepass_in s.core
onepass_in (ReverseInner i) = core.onepass_in i.core

-- what is accounted for the tables of its full DFAs, if it has some
abbrev pub tables_in : Strategy → ℕ
tables_in (Pre p) = 0
tables_in (Core c) = core.tables_in c
tables_in (ReverseAnchored c) = core.tables_in c
tables_in (ReverseSuffix s) = core.tables_in s.core
tables_in (ReverseInner i) = core.tables_in i.core + table_of i.prefix.sort

-- it has a one-pass DFA
abbrev pub has_onepass : Strategy → Bool
has_onepass (Pre p) = false
has_onepass (Core c) = core.has_onepass c
has_onepass (ReverseAnchored c) = core.has_onepass c
has_onepass (ReverseSuffix s) = core.has_onepass s.core
has_onepass (ReverseInner i) = core.has_onepass i.core

-- it has DFAs
abbrev pub has_dfas : Strategy → Bool
has_dfas (Pre p) = false
has_dfas (Core c) = core.has_dfas c
has_dfas (ReverseAnchored c) = core.has_dfas c
has_dfas (ReverseSuffix s) = core.has_dfas s.core
has_dfas (ReverseInner i) = core.has_dfas i.core

-- it has lazy DFAs
abbrev pub has_lazy : Strategy → Bool
has_lazy (Pre p) = false
has_lazy (Core c) = core.has_lazy c
has_lazy (ReverseAnchored c) = core.has_lazy c
has_lazy (ReverseSuffix s) = core.has_lazy s.core
has_lazy (ReverseInner i) = core.has_lazy i.core || are_states i.prefix

-- there are no more patterns than identifiers tell apart
abbrev pub IsFew : Strategy → Type 0
IsFew s = pattern_count s ≤ id_limit

-- there is a backtracker
abbrev pub backtracks : Strategy → Bool
backtracks (Pre p) = false
backtracks (Core c) = core.backtracks c
backtracks (ReverseAnchored c) = core.backtracks c
backtracks (ReverseSuffix s) = core.backtracks s.core
backtracks (ReverseInner i) = core.backtracks i.core

-- A search may leave out much of the span: by a prefilter that is expected to be fast, or since it reads from the end.
abbrev pub is_accelerated : Strategy → Bool
is_accelerated (Pre p) = is_fast (chosen p.needles) p.needles
is_accelerated (Core c) = core.is_accelerated c
is_accelerated (ReverseAnchored c) = true
is_accelerated (ReverseSuffix s) = is_fast (chosen s.needles) s.needles
is_accelerated (ReverseInner i) = is_fast (chosen i.needles) i.needles

-- the name of a search for literals by this kind
unfoldable pub literal_name : Choice → List ℕ
literal_name Memchr = codes "prefilter memchr"
literal_name Memchr2 = codes "prefilter memchr2"
literal_name Memchr3 = codes "prefilter memchr3"
literal_name Memmem = codes "prefilter memmem"
literal_name Multi = codes "prefilter multi"
literal_name ByteSet = codes "prefilter byteset"
literal_name AhoCorasick = codes "prefilter aho-corasick"

-- the name of a strategy
unfoldable pub name_of : Strategy → List ℕ
name_of (Pre p) = literal_name (chosen p.needles)
name_of (Core c) = codes "core"
name_of (ReverseAnchored c) = codes "reverse anchored"
name_of (ReverseSuffix s) = codes "reverse suffix"
name_of (ReverseInner i) = codes "reverse inner"

-- the search for literals in place of these expressions under the configuration
pub record IsPreOf (config : Config) (hs : List Expression) (p : PreValue) : Type 0 where
  pub literals : literals_for config hs ≡ Some p.needles
  pub whole : AreWholeOf p.needles hs
  pub tells : p.tells ≡ tells (captures_of config)
  pub properties : AreOf (alternation (expressions hs)) p.properties
  pub groups : p.groups ≡ pattern_groups hs

-- what a core without literals that stand for all of them is to these expressions
pub record IsPlainOf (config : Config) (hs : List Expression) (c : CoreStrategy) : Type 0 where
  pub core : core.IsMadeOf config hs c
  pub literals : literals_for config hs ≡ None

-- What is made of the core of these expressions: the search for literals, where these stand for all that they are; and else the core
-- is given back.
abbrev pub IsTried : Config → List Expression → CoreStrategy → Result PreValue CoreStrategy → Type 0
IsTried config hs c (Ok p) = IsPreOf config hs p
IsTried config hs c (Err back) = (back ≡ c) × (literals_for config hs ≡ None)

-- .. which is not searched from the end
pub record IsForwardsOf (config : Config) (hs : List Expression) (c : CoreStrategy) : Type 0 where
  pub plain : IsPlainOf config hs c
  pub not_from_end : is_from_end c (alternation (expressions hs)) ≡ false

-- .. and not by a literal that ends each match
pub record IsEndlessOf (config : Config) (hs : List Expression) (c : CoreStrategy) : Type 0 where
  pub forwards : IsForwardsOf config hs c
  pub no_suffix : suffix_for config c hs ≡ None

-- The strategy that is made of these expressions under the configuration: the first one that applies.
abbrev pub IsMadeOf : Config → List Expression → Strategy → Type 0
IsMadeOf config hs (Pre p) = IsPreOf config hs p
IsMadeOf config hs (ReverseAnchored c) = IsPlainOf config hs c × (is_from_end c (alternation (expressions hs)) ≡ true)
IsMadeOf config hs (ReverseSuffix s) = IsForwardsOf config hs s.core × IsSuffixOf config hs s.core s
IsMadeOf config hs (ReverseInner i) = IsEndlessOf config hs i.core × IsInnerOf config hs i.core i
IsMadeOf config hs (Core c) = IsEndlessOf config hs c × HasNoInner config (inner_for config c hs)
