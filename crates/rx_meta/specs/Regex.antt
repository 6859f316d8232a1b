-- What a regex is to a contract. How it searches is its strategy's own: a contract sees it by these definitions alone, which do
-- not unfold by themselves.
use Rattle.std.specs.Prelude.{ℕ, Bool, List, Option}
use Rattle.rx_model.specs.Expression.{Expression}
use Rattle.rx_model.specs.Search.{Patterns, Match}
use Rattle.rx_search.specs.Input.{InputValue}
use Rattle.rx_search.specs.Needles.{BeginsEachMatch}
use Rattle.rx_search.specs.declared.anchored.MatchKind.{MatchKind}
use Rattle.rx_hir.specs.declared.hir.properties.Properties.{Properties}
use Rattle.rx_strategy.specs.Config.{prefilter_of}
use Rattle.rx_strategy.specs.declared.config.Config.{Config}
use Rattle.rx_strategies.specs.Strategy as strategy
use Rattle.rx_strategies.specs.Attempting.{is_by_inner, are_all_lazy}
use Rattle.rx_strategies.specs.declared.strategy.Strategy.{Strategy}

pub record RegexValue : Type 0 where
  pub config : Config
  pub strategy : Strategy

-- what a search of the regex finds, where matches are told
unfoldable pub searches : RegexValue → InputValue → Option Match
searches regex v = strategy.finds regex.strategy v

-- which of the matches that begin at one place is reported
unfoldable pub kind_in : RegexValue → MatchKind
kind_in regex = strategy.kind_in regex.strategy

-- the groups of each pattern, by their names
unfoldable pub groups_in : RegexValue → List (List (Option (List ℕ)))
groups_in regex = strategy.groups_in regex.strategy

unfoldable pub pattern_count : RegexValue → ℕ
pattern_count regex = strategy.pattern_count regex.strategy

-- the properties of the patterns together
unfoldable pub properties_in : RegexValue → Properties
properties_in regex = strategy.properties_of regex.strategy

-- the needles of its prefilter, if it has one
unfoldable pub prefilter_in : RegexValue → Option (List (List ℕ))
prefilter_in regex = strategy.prefilter_in regex.strategy

-- the needles of the prefilter that was handed in, if one was
abbrev pub given_needles : RegexValue → Option (List (List ℕ))
given_needles regex = prefilter_of regex.config

-- The regex searches for these patterns. If each match of them begins with a needle of the prefilter that was handed in,
-- each begins with one of its prefilter.
unfoldable pub Serves : RegexValue → Patterns → Type 0
Serves regex r = strategy.IsFor regex.strategy r × (BeginsEachMatch (given_needles regex) r → BeginsEachMatch (strategy.prefilter_in regex.strategy) r)

-- what is accounted for a regex
unfoldable pub regex_memory : RegexValue → ℕ
regex_memory regex = strategy.strategy_memory regex.strategy

-- the name of its strategy
unfoldable pub name_of : RegexValue → List ℕ
name_of regex = strategy.name_of regex.strategy

-- a search of it may leave out much of the haystack
unfoldable pub is_accelerated : RegexValue → Bool
is_accelerated regex = strategy.is_accelerated regex.strategy

-- it has a one-pass DFA
unfoldable pub has_onepass : RegexValue → Bool
has_onepass regex = strategy.has_onepass regex.strategy

-- what is accounted for the table of that, if it is there
unfoldable pub onepass_memory : RegexValue → ℕ
onepass_memory regex = strategy.onepass_in regex.strategy

-- it has DFAs
unfoldable pub has_dfas : RegexValue → Bool
has_dfas regex = strategy.has_dfas regex.strategy

-- what is accounted for the tables of its full DFAs, if it has some
unfoldable pub tables_memory : RegexValue → ℕ
tables_memory regex = strategy.tables_in regex.strategy

-- it has lazy DFAs
unfoldable pub has_lazy : RegexValue → Bool
has_lazy regex = strategy.has_lazy regex.strategy

-- it searches by literals within each match, with a DFA of what stands before them
unfoldable pub reads_prefix : RegexValue → Bool
reads_prefix regex = is_by_inner regex.strategy

-- each of its DFAs is a lazy one, and there are some
unfoldable pub is_all_lazy : RegexValue → Bool
is_all_lazy regex = are_all_lazy regex.strategy

-- The regex is made of these expressions under the configuration. So its engines and its DFAs are those that the configuration has
-- for them.
unfoldable pub IsMadeUnder : Config → List Expression → RegexValue → Type 0
IsMadeUnder c hs regex = strategy.IsMadeOf c hs regex.strategy
