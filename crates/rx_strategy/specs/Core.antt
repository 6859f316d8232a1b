-- What a core is to a contract: the engines over one NFA, and what is known of the patterns.
use Rattle.std.specs.Prelude.{◌≡◌, ℕ, ◌+◌, ◌-◌, ◌*◌, ◌^◌, min, ◌≤◌, Bool, true, false, ◌&&◌, nat_le, List, length, Option}
use Rattle.std.specs.Prelude.{Some, None, option_map, is_some, IfSome, slice_get, if◌then◌else◌}
use Rattle.rx_model.specs.Expression.{Expression, alternation, AreOrdered}
use Rattle.rx_model.specs.Search.{Patterns, WhichCaptures, Match, told_of}
use Rattle.rx_search.specs.Input.{InputValue, next_in, span_len}
use Rattle.rx_search.specs.Matches.{MatchValue, match_value}
use Rattle.rx_search.specs.Told.{tells, IsMatchWith, HasSlots}
use Rattle.rx_search.specs.declared.anchored.MatchKind.{MatchKind}
use Rattle.rx_search.specs.declared.anchored.MatchKind.TheVariants.{LeftmostFirst}
use Rattle.rx_hir.specs.Cost.{state_size}
use Rattle.rx_hir.specs.Normal.{expressions}
use Rattle.rx_hir.specs.PropertiesViews.{AreOf}
use Rattle.rx_hir.specs.declared.hir.properties.Properties.{Properties}
use Rattle.rx_nfa.specs.Compiled.{IsCompiled}
use Rattle.rx_nfa.specs.Nfa.{Nfa, IsNfaOf, HasReverseRuns}
use Rattle.rx_nfa.specs.NextMatch.{next_match_in}
use Rattle.rx_engines.specs.Bounded.{BacktrackerValue, max_len}
use Rattle.rx_engines.specs.Engine.{PikeVMValue}
use Rattle.rx_strategy.specs.Availability.{AreDfasBeside}
use Rattle.rx_strategy.specs.Config.{kind_of, captures_of, compiler_of, reverse_compiler_of, asks_for_dfas, has_backtracker}
use Rattle.rx_strategy.specs.Impossible.{is_impossible}
use Rattle.rx_strategy.specs.Dfas.{tables_memory}
use Rattle.rx_strategy.specs.OnePass.{IsOnePassBeside, onepass_memory}
use Rattle.rx_strategy.specs.Prefilter.{prefilter_for, prefilter_memory}
use Rattle.rx_strategy.specs.declared.config.Config.{Config}
use Rattle.rx_strategy.specs.declared.dfas.Dfas.{Dfas}
use Rattle.rx_strategy.specs.declared.onepass.OnePass.{OnePass}

pub record CoreValue : Type 0 where
  pub nfa : Nfa
  -- which of the matches that begin at one place is reported
  pub kind : MatchKind
  -- which groups are told
  pub which_captures : WhichCaptures
  -- the one-pass DFA, if there is one
  pub onepass : OnePass
  -- there is a backtracker
  pub backtracks : Bool
  -- the needles of its prefilter, if it has one
  pub pre : Option (List (List ℕ))
  -- the properties of the patterns together
  pub properties : Properties
  -- the NFA that reads backwards, where DFAs are asked for
  pub reverse : Option Nfa
  -- the DFAs of both, if there are some
  pub dfas : Dfas

-- the core's PikeVM
abbrev pub pikevm_of : CoreValue → PikeVMValue
pikevm_of c = record { nfa = c.nfa; kind = c.kind; pre = c.pre }

-- the core's backtracker
abbrev pub backtracker_of : CoreValue → BacktrackerValue
backtracker_of c = record { nfa = c.nfa; pre = c.pre }

-- the core's backtracker serves this input: the span is not too long for it
abbrev pub backtracker_serves : CoreValue → InputValue → Bool
backtracker_serves c v = c.backtracks && nat_le (span_len v) (max_len c.nfa)

-- the core searches for these patterns
pub record IsCoreFor (c : CoreValue) (r : Patterns) : Type 0 where
  pub nfa : IsNfaOf c.nfa r
  pub which_captures : r.which_captures ≡ c.which_captures
  -- the counts of each expression are in order
  pub ordered : (p : ℕ) (h : Expression) → slice_get r.expressions p ≡ Some h → AreOrdered h
  -- the NFA that reads backwards, if it is there, leads back over exactly the spans that they mean
  pub reverse : IfSome c.reverse (λ back. HasReverseRuns back r)
  -- the properties are theirs
  pub properties : AreOf (alternation (expressions r.expressions)) c.properties

-- what a search of the core finds: the next match of its NFA, where matches are told
abbrev pub core_finds : CoreValue → InputValue → Option Match
core_finds c v = if tells c.which_captures then next_match_in c.nfa v else None

-- the core of these expressions under the configuration
pub record IsCoreOf (config : Config) (hs : List Expression) (c : CoreValue) : Type 0 where
  pub compiled : IsCompiled (compiler_of config) hs c.nfa
  pub kind : c.kind ≡ kind_of config
  pub which_captures : c.which_captures ≡ captures_of config
  -- which one-pass DFA is there
  pub onepass : IsOnePassBeside config c.nfa (alternation (expressions hs)) c.onepass
  -- there is a backtracker exactly where the configuration asks for one, and none under `All`
  pub backtracks : c.backtracks ≡ has_backtracker config
  -- it searches with the prefilter that these expressions have under the configuration
  pub pre : c.pre ≡ prefilter_for config hs
  -- its properties are those of the expressions together, so that it is known where no match is possible
  pub properties : AreOf (alternation (expressions hs)) c.properties
  -- the NFA that reads backwards is there exactly where DFAs are asked for, and compiled of them too
  pub asked : is_some c.reverse ≡ asks_for_dfas config
  pub reverse : IfSome c.reverse (IsCompiled (reverse_compiler_of config) hs)
  -- which DFAs are there
  pub dfas : AreDfasBeside config c.nfa c.reverse c.dfas

-- what is accounted for an NFA, if it is there
abbrev pub reverse_memory : Option Nfa → ℕ
reverse_memory None = 0
reverse_memory (Some nfa) = state_size * nfa.accounted

-- what is accounted for the core itself
abbrev pub core_memory : CoreValue → ℕ
core_memory c = min (2 ^ 64 - 1) (prefilter_memory c.pre + state_size * c.nfa.accounted + reverse_memory c.reverse + onepass_memory c.onepass.dfa + tables_memory c.dfas)

-- The properties are those of some patterns together, of which the NFA has no match where none is possible.
pub record AreKnownOf (p : Properties) (nfa : Nfa) : Type 0 where
  pub patterns : List Expression
  pub properties : AreOf (alternation (expressions patterns)) p
  pub none : (v : InputValue) → v.end ≤ length v.haystack → is_impossible patterns v ≡ true → next_match_in nfa v ≡ None

-- What the backtracker and the PikeVM tell of a search, in the slots and else. With a prefilter this is known of an
-- input in which each run of the NFA begins with one of its needles.
pub record IsSearched (nfa : Nfa) (v : InputValue) (told : List (Option ℕ)) (found : Option MatchValue) : Type 0 where
  -- without `earliest` the next match of its NFA
  pub value : v.earliest ≡ false → found ≡ option_map match_value (next_match_in nfa v)
  -- which is that of the patterns
  pub patterns : (r : Patterns) → IsNfaOf nfa r → next_match_in nfa v ≡ option_map (told_of r.which_captures) (next_in r v)
  -- something is found exactly where there is a match
  pub exists : is_some found ≡ is_some (next_match_in nfa v)
  -- and it is a match of the patterns
  pub is_match : (r : Patterns) → IsNfaOf nfa r → IfSome found (λ m. IsMatchWith r v (λ n. (m ≡ match_value n) × HasSlots told n))
  pub slots : v.earliest ≡ false → IfSome (next_match_in nfa v) (HasSlots told)

-- What a search of a core tells of these patterns, in the slots and else.
pub record IsToldFor (kind : MatchKind) (r : Patterns) (v : InputValue) (told : List (Option ℕ)) (found : Option MatchValue) : Type 0 where
  -- the next match, under leftmost-first where not just any match will do
  pub value : kind ≡ LeftmostFirst → v.earliest ≡ false → found ≡ option_map match_value (next_in r v)
  -- something is found exactly where there is a match
  pub exists : is_some found ≡ is_some (next_in r v)
  -- and it is a match, with its slots
  pub is_match : IfSome found (λ m. IsMatchWith r v (λ n. (m ≡ match_value n) × HasSlots told n))
  pub slots : kind ≡ LeftmostFirst → v.earliest ≡ false → IfSome (option_map (told_of r.which_captures) (next_in r v)) (HasSlots told)
