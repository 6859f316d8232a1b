-- What a build answers.
use Rattle.std.specs.Prelude.{◌≡◌, ℕ, Bool, true, false, ◌+◌, ◌-◌, ◌*◌, ◌^◌, ◌/◌, ◌<◌, ◌≤◌, min, List, [], ◌∷◌, length, Option, Some, None, IfSome, IsSomeAnd, slice_get, Ok, Err, if◌then◌else◌}
use Rattle.rx_model.specs.Expression.{Expression, alternation, AreOrdered}
use Rattle.rx_model.specs.Search.{Patterns}
use Rattle.rx_search.specs.Input.{InputValue}
use Rattle.rx_search.specs.Limits.{id_limit, slot_limit}
use Rattle.rx_search.specs.PatternGroups.{pattern_groups}
use Rattle.rx_hir.specs.Cost.{nfa_states, slots_of, state_size, capped}
use Rattle.rx_hir.specs.Normal.{expressions}
use Rattle.rx_hir.specs.PropertiesViews.{AreOf}
use Rattle.rx_reader.specs.declared.config.Config.{Config as Grammar}
use Rattle.rx_syntax.specs.Patterns.{all_read}
use Rattle.rx_thompson.specs.declared.error.BuildError.{BuildError as CompilerError}
use Rattle.rx_thompson.specs.declared.error.BuildError.TheVariants.{Syntax as Refused, TooManyPatterns, TooManyGroups, TooManyStates}
use Rattle.rx_thompson.specs.declared.error.BuildError.TheVariants.{ExceededSizeLimit, Memory as NoMemory}
use Rattle.rx_meta.specs.Cache.{CacheValue, Fits, IsAsMadeFor, accounted_for, states_memory}
use Rattle.rx_meta.specs.Config.{Config, kind_of, utf8_of, terminator_of, captures_of, size_limit_of, has_backtracker, asks_for_dfas, onepass_of, dfa_of, hybrid_of, dfa_size_limit_of, dfa_state_limit_of, hybrid_cache_capacity_of}
use Rattle.rx_meta.specs.Impossible.{is_impossible, IsKnownImpossible}
use Rattle.rx_meta.specs.Name.{Way, by_literals, from_end, by_suffix, by_inner, plain, literals_for, chosen, accounted, way_for, way_name, accelerated_by}
use Rattle.rx_meta.specs.Prefilter.{prefilter_for, prefilter_memory}
use Rattle.rx_meta.specs.Reading.{reading_of}
use Rattle.rx_meta.specs.Regex.{RegexValue, Serves, kind_in, groups_in, pattern_count, properties_in, prefilter_in, regex_memory, onepass_memory, tables_memory, has_onepass, has_lazy, has_dfas, reads_prefix, is_all_lazy, name_of, is_accelerated, IsMadeUnder}
use Rattle.rx_meta.specs.declared.error.BuildError.{BuildError}
use Rattle.rx_meta.specs.declared.error.BuildError.TheVariants.{Syntax, NFA, Memory}

-- the patterns of these expressions under the configuration
abbrev pub patterns_for : Config → List Expression → Patterns
patterns_for c hs = record { expressions = hs; utf8_empty = utf8_of c; terminator = terminator_of c; which_captures = captures_of c }

-- there are few enough patterns and slots
pub record AreFew (hs : List Expression) : Type 0 where
  pub patterns : length hs ≤ id_limit
  pub slots : slots_of hs ≤ slot_limit

-- there are few enough states too, and their bytes are within the limit, where there is one
pub record AreAllowed (c : Config) (hs : List Expression) : Type 0 where
  pub few : AreFew hs
  pub states : nfa_states hs ≤ id_limit
  pub size : IfSome (size_limit_of c) (λ limit. state_size * nfa_states hs ≤ limit)

-- What is accounted for the cache of one engine: 16 for each slot of each accounted state, up to the greatest number of
-- 64 bits.
abbrev pub engine_memory : List Expression → ℕ
engine_memory hs = min (2 ^ 64 - 1) (16 * nfa_states hs * slots_of hs)

-- what is accounted for the cache of a one-pass DFA: 8 for each slot of an explicit group
abbrev pub onepass_cache : List Expression → ℕ
onepass_cache hs = 8 * (slots_of hs - 2 * length hs)

-- What is accounted for a cache: for the PikeVM, for the one-pass DFA, where there is one, and as much as for the PikeVM for the
-- backtracker, where there is one.
abbrev pub cache_memory : Config → List Expression → (onepass : Bool) → ℕ
cache_memory c hs onepass =
    min (2 ^ 64 - 1) (engine_memory hs + (if onepass then onepass_cache hs else 0) + (if has_backtracker c then engine_memory hs else 0))

-- What is accounted for its NFAs: as much for the one that reads backwards, which is there where DFAs are asked for.
abbrev pub nfas_memory : Config → List Expression → ℕ
nfas_memory c hs = state_size * nfa_states hs + (if asks_for_dfas c then state_size * nfa_states hs else 0)

-- what is accounted for a core with the properties of its patterns, and beside it for tables and searches for literals
abbrev pub memory_beside : Config → List Expression → (beside : ℕ) → ℕ
memory_beside c hs beside = min (2 ^ 64 - 1) (64 * (length hs + 1) + prefilter_memory (prefilter_for c hs) + nfas_memory c hs + beside)

-- What is accounted for the regex: where it looks for literals alone, what is accounted for that search. Else it is the core, the tables,
-- the search for the literals of candidates, and the NFA of what stands before these.
abbrev pub memory_by : Way → Config → List Expression → (tables : ℕ) → ℕ
memory_by (by_literals needles) c hs tables = accounted (chosen needles) needles
memory_by from_end c hs tables = memory_beside c hs tables
memory_by (by_suffix suffix) c hs tables = memory_beside c hs (tables + accounted (chosen (suffix ∷ [])) (suffix ∷ []))
memory_by (by_inner prefix needles) c hs tables = memory_beside c hs (tables + accounted (chosen needles) needles + state_size * nfa_states (prefix ∷ []))
memory_by plain c hs tables = memory_beside c hs tables

-- and for a cache of it, which is nothing where it looks for literals alone
abbrev pub cache_memory_by : Option (List (List ℕ)) → Config → List Expression → (onepass : Bool) → ℕ
cache_memory_by (Some needles) c hs onepass = 0
cache_memory_by None c hs onepass = cache_memory c hs onepass

-- the needles of the prefilter beside its engines, which it has none of there
abbrev pub prefilter_by : Option (List (List ℕ)) → Config → List Expression → Option (List (List ℕ))
prefilter_by (Some needles) c hs = None
prefilter_by None c hs = prefilter_for c hs

-- the least capacity of a lazy DFA of these expressions
abbrev pub least_capacity : List Expression → ℕ
least_capacity hs = 16384 + 16 * nfa_states hs

-- there is room for a DFA of this prefix: its NFA is within the limits, and a lazy DFA is asked for, and has room
pub record HasRoom (c : Config) (prefix : Expression) : Type 0 where
  pub states : nfa_states (prefix ∷ []) ≤ id_limit
  pub size : IfSome (size_limit_of c) (λ limit. state_size * nfa_states (prefix ∷ []) ≤ limit)
  pub hybrid : hybrid_of c ≡ true
  pub capacity : least_capacity (prefix ∷ []) ≤ hybrid_cache_capacity_of c

-- Neither sort of DFA may be made of these: a lazy one that is asked for has no room, and for a full one too many states are accounted.
pub record HaveNoDfa (c : Config) (hs : List Expression) : Type 0 where
  pub lazy : hybrid_of c ≡ true → hybrid_cache_capacity_of c < least_capacity hs
  pub full : dfa_of c ≡ true → IsSomeAnd (dfa_state_limit_of c) (λ limit. limit < nfa_states hs)

-- the strategy that the regex of these expressions has, by which DFAs it has
abbrev pub way_of : Config → List Expression → RegexValue → Way
way_of c hs regex = way_for c hs (has_dfas regex) (λ prefix. reads_prefix regex)

-- .. and the one that it would have if there were a DFA of each prefix
abbrev pub way_with_prefix : Config → List Expression → RegexValue → Way
way_with_prefix c hs regex = way_for c hs (has_dfas regex) (λ prefix. true)

-- Which strategy the regex of these expressions has, by its name.
pub record IsNamed (c : Config) (hs : List Expression) (regex : RegexValue) : Type 0 where
  -- the first that applies, by which DFAs are there
  pub name : name_of regex ≡ way_name (way_of c hs regex)
  -- DFAs are there where lazy ones are asked for, and have room
  pub dfas : literals_for c hs ≡ None → hybrid_of c ≡ true → least_capacity hs ≤ hybrid_cache_capacity_of c → has_dfas regex ≡ true
  -- and not where neither sort may be made
  pub no_dfas : literals_for c hs ≡ None → HaveNoDfa c hs → has_dfas regex ≡ false
  -- likewise one of what stands before literals within each match, where these are searched for
  pub prefix : (p : Expression) (needles : List (List ℕ)) → way_with_prefix c hs regex ≡ by_inner p needles → HasRoom c p → reads_prefix regex ≡ true
  pub no_prefix : (p : Expression) (needles : List (List ℕ)) → way_with_prefix c hs regex ≡ by_inner p needles → HaveNoDfa c (p ∷ [])
      → reads_prefix regex ≡ false

-- the regex of these expressions
pub record IsBuilt (c : Config) (hs : List Expression) (regex : RegexValue) : Type 0 where
  pub config : regex.config ≡ c
  -- its engines and its DFAs are those that the configuration has for these expressions
  pub made : IsMadeUnder c hs regex
  -- a one-pass DFA is there only where one may be used
  pub no_onepass : onepass_of c ≡ false → has_onepass regex ≡ false
  -- a full DFA is there only where it is asked for, and its table is within a quarter of the limit, or half of it for that of a prefix
  pub no_tables : dfa_of c ≡ false → tables_memory regex ≡ 0
  pub small_tables : IfSome (dfa_size_limit_of c) (λ limit. tables_memory regex ≤ (if reads_prefix regex then limit else limit / 2))
  -- and a lazy one only where it is asked for
  pub no_lazy : hybrid_of c ≡ false → has_lazy regex ≡ false
  -- Where each of them is a lazy one, a cache that was made or reset for it holds states within the capacity of each: the one that reads
  -- forwards, the one that reads backwards, and that of a prefix.
  pub small_states : is_all_lazy regex ≡ true → (cache : CacheValue) → Fits regex cache → IsAsMadeFor regex cache
      → states_memory cache ≤ (if reads_prefix regex then 3 else 2) * hybrid_cache_capacity_of c
  pub kind : kind_in regex ≡ kind_of c
  -- it searches for the patterns of these expressions
  pub serves : Serves regex (patterns_for c hs)
  -- one pattern for each expression, with its groups
  pub count : pattern_count regex ≡ length hs
  pub groups : groups_in regex ≡ pattern_groups hs
  -- the counts of each expression are in order, as the laws on its meaning ask
  pub ordered : (p : ℕ) (h : Expression) → slice_get hs p ≡ Some h → AreOrdered h
  -- no count and no cost passes its limit
  pub allowed : AreAllowed c hs
  -- what is accounted for it, and for its caches
  pub memory : regex_memory regex ≡ memory_by (way_of c hs regex) c hs (onepass_memory regex + tables_memory regex)
  pub cache : accounted_for regex ≡ cache_memory_by (literals_for c hs) c hs (has_onepass regex)
  -- its properties are those of the expressions together, so that it is known where no match is possible
  pub properties : AreOf (alternation (expressions hs)) (properties_in regex)
  pub impossible : (v : InputValue) → is_impossible hs v ≡ true → IsKnownImpossible regex v
  -- it searches with the prefilter that these expressions have under the configuration
  pub pre : prefilter_in regex ≡ prefilter_by (literals_for c hs) c hs
  -- which strategy it has
  pub named : IsNamed c hs regex
  -- whether a search may leave out much of the haystack: by its literals, by reading from the end, or by its prefilter
  pub accelerated : is_accelerated regex ≡ accelerated_by (way_of c hs regex) (prefilter_for c hs)

-- Why so many patterns, of which the first ones read as these expressions, pass a limit. Numbers are told up to the
-- greatest of 64 bits. Neither what the grammar refuses nor want of memory is told so.
abbrev pub IsRefusal : Config → (count : ℕ) → List Expression → CompilerError → Type 0
IsRefusal c count hs (Refused pid err) = ⊥
IsRefusal c count hs (TooManyPatterns given limit) = (given ≡ count) × (limit ≡ id_limit) × (limit < given)
IsRefusal c count hs (TooManyGroups given limit) =
    (count ≤ id_limit) × (given ≡ capped (slots_of hs)) × (limit ≡ slot_limit) × (limit < given)
IsRefusal c count hs (TooManyStates given limit) =
    (count ≤ id_limit) × AreFew hs × (given ≡ capped (nfa_states hs)) × (limit ≡ id_limit) × (limit < given)
IsRefusal c count hs (ExceededSizeLimit limit size) =
    (count ≤ id_limit) × AreFew hs × (nfa_states hs ≤ id_limit) × (size_limit_of c ≡ Some limit) × (size ≡ state_size * nfa_states hs) × (limit < size)
IsRefusal c count hs NoMemory = ⊥

-- why there is no regex of these expressions: a count or a cost passes its limit, or else there was no memory
abbrev pub IsRefused : Config → List Expression → BuildError → Type 0
IsRefused c hs (Syntax pid err) = ⊥
IsRefused c hs (NFA cause) = IsRefusal c (length hs) hs cause
IsRefused c hs Memory = AreAllowed c hs

-- the regex of these patterns
abbrev pub IsBuiltOf : Grammar → Config → List (List ℕ) → RegexValue → Type 0
IsBuiltOf syntax c texts regex = (hs : List Expression) × (all_read syntax texts ≡ Ok hs) × IsBuilt c hs regex

-- Why there is no regex of these patterns: the first that the grammar refuses, and else a count or a cost that passes its
-- limit. Of want of memory nothing is said.
abbrev pub IsRefusedFor : Grammar → Config → List (List ℕ) → BuildError → Type 0
IsRefusedFor syntax c texts (Syntax pid err) = reading_of syntax texts ≡ Err (record { pattern = pid; error = err })
IsRefusedFor syntax c texts (NFA cause) = (hs : List Expression) × (reading_of syntax texts ≡ Ok hs) × IsRefusal c (length texts) hs cause
IsRefusedFor syntax c texts Memory = Unit {0}
