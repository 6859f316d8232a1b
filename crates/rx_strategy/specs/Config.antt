-- What a configuration asks for.
use Rattle.std.specs.Prelude.{◌&&◌, ◌||◌, ℕ, Bool, true, false, List, Option, Some, None, unwrap_or}
use Rattle.std.specs.Option.{option_or}
use Rattle.rx_model.specs.Search as model
use Rattle.rx_search.specs.declared.anchored.MatchKind.{MatchKind}
use Rattle.rx_search.specs.declared.anchored.MatchKind.TheVariants.{All, LeftmostFirst}
use Rattle.rx_nfa.specs.Config.{captures_kind}
use Rattle.rx_nfa.specs.declared.compiler.config.Config.{Config as CompilerConfig}
use Rattle.rx_nfa.specs.declared.compiler.config.WhichCaptures.{WhichCaptures}
use Rattle.rx_nfa.specs.declared.compiler.config.WhichCaptures.TheVariants.{All as EveryGroup, None as NoGroup}
use Rattle.rx_strategy.specs.declared.config.Config.{Config}

-- which of the matches that begin at one place is reported
abbrev pub kind_of : Config → MatchKind
kind_of c = unwrap_or c.match_kind LeftmostFirst

-- no match may start inside a character
abbrev pub utf8_of : Config → Bool
utf8_of c = unwrap_or c.utf8_empty true

-- a prefilter is made of what each match of the patterns begins with, where none is handed in
abbrev pub auto_prefilter_of : Config → Bool
auto_prefilter_of c = unwrap_or c.auto_prefilter true

-- the needles of the prefilter that is handed in, if one is
abbrev pub prefilter_of : Config → Option (List (List ℕ))
prefilter_of c = unwrap_or c.prefilter None

-- which groups are told
abbrev pub which_of : Config → WhichCaptures
which_of c = unwrap_or c.which_captures EveryGroup

abbrev pub captures_of : Config → model.WhichCaptures
captures_of c = captures_kind (which_of c)

-- the most bytes that may be accounted for the NFA, if there is a limit
abbrev pub size_limit_of : Config → Option ℕ
size_limit_of c = unwrap_or c.nfa_size_limit (Some 10485760)

-- the byte that ends lines
abbrev pub terminator_of : Config → ℕ
terminator_of c = unwrap_or c.line_terminator 10

-- the backtracker is asked for
abbrev pub backtrack_of : Config → Bool
backtrack_of c = unwrap_or c.backtrack true

-- the compiler's configuration under this one
abbrev pub compiler_of : Config → CompilerConfig
compiler_of c = record {
  utf8 = Some (utf8_of c);
  reverse = None;
  nfa_size_limit = Some (size_limit_of c);
  which_captures = Some (which_of c);
  look_matcher = Some (terminator_of c);
}

abbrev pub is_leftmost : MatchKind → Bool
is_leftmost All = false
is_leftmost LeftmostFirst = true

-- the bounded backtracker may serve
abbrev pub has_backtracker : Config → Bool
has_backtracker c = backtrack_of c && is_leftmost (kind_of c)

-- the most bytes that a one-pass DFA may have, if there is a limit
abbrev pub onepass_size_limit_of : Config → Option ℕ
onepass_size_limit_of c = unwrap_or c.onepass_size_limit (Some 1048576)

-- how many bytes the cache of a lazy DFA may have
abbrev pub hybrid_cache_capacity_of : Config → ℕ
hybrid_cache_capacity_of c = unwrap_or c.hybrid_cache_capacity 2097152

-- the limit of the tables of full DFAs, if there is one: each of the two may have a quarter of it
abbrev pub dfa_size_limit_of : Config → Option ℕ
dfa_size_limit_of c = unwrap_or c.dfa_size_limit (Some 40960)

-- the most accounted states of an NFA for which a full DFA is made, if there is a limit
abbrev pub dfa_state_limit_of : Config → Option ℕ
dfa_state_limit_of c = unwrap_or c.dfa_state_limit (Some 30)

-- bytes that the patterns do not tell apart are one to a DFA
abbrev pub byte_classes_of : Config → Bool
byte_classes_of c = unwrap_or c.byte_classes true

-- among how many stacks the pool of caches is spread
abbrev pub pool_capacity_of : Config → ℕ
pool_capacity_of c = unwrap_or c.pool_capacity 8

-- lazy DFAs may be used
abbrev pub hybrid_of : Config → Bool
hybrid_of c = unwrap_or c.hybrid true

-- full DFAs may be used
abbrev pub dfa_of : Config → Bool
dfa_of c = unwrap_or c.dfa true

-- a one-pass DFA may be used
abbrev pub onepass_of : Config → Bool
onepass_of c = unwrap_or c.onepass true

-- DFAs of either sort are asked for
abbrev pub asks_for_dfas : Config → Bool
asks_for_dfas c = dfa_of c || hybrid_of c

-- the compiler's configuration for the NFA that reads backwards, which tells no groups
abbrev pub reverse_compiler_of : Config → CompilerConfig
reverse_compiler_of c = record (compiler_of c) { reverse = Some true; which_captures = Some NoGroup }

-- .. and for that of what stands before literals, which tells each start, also one inside a character
abbrev pub prefix_compiler_of : Config → CompilerConfig
prefix_compiler_of c = record (reverse_compiler_of c) { utf8 = Some false }

-- nothing is set
abbrev pub nothing_set : Config
nothing_set = record {
  match_kind = None;
  utf8_empty = None;
  auto_prefilter = None;
  prefilter = None;
  which_captures = None;
  nfa_size_limit = None;
  onepass_size_limit = None;
  hybrid_cache_capacity = None;
  dfa_size_limit = None;
  dfa_state_limit = None;
  byte_classes = None;
  line_terminator = None;
  pool_capacity = None;
  hybrid = None;
  dfa = None;
  onepass = None;
  backtrack = None;
}

-- the new configuration, with what it leaves open as in the old one
abbrev pub overwritten : (old new : Config) → Config
overwritten old new = record {
  match_kind = option_or new.match_kind old.match_kind;
  utf8_empty = option_or new.utf8_empty old.utf8_empty;
  auto_prefilter = option_or new.auto_prefilter old.auto_prefilter;
  prefilter = option_or new.prefilter old.prefilter;
  which_captures = option_or new.which_captures old.which_captures;
  nfa_size_limit = option_or new.nfa_size_limit old.nfa_size_limit;
  onepass_size_limit = option_or new.onepass_size_limit old.onepass_size_limit;
  hybrid_cache_capacity = option_or new.hybrid_cache_capacity old.hybrid_cache_capacity;
  dfa_size_limit = option_or new.dfa_size_limit old.dfa_size_limit;
  dfa_state_limit = option_or new.dfa_state_limit old.dfa_state_limit;
  byte_classes = option_or new.byte_classes old.byte_classes;
  line_terminator = option_or new.line_terminator old.line_terminator;
  pool_capacity = option_or new.pool_capacity old.pool_capacity;
  hybrid = option_or new.hybrid old.hybrid;
  dfa = option_or new.dfa old.dfa;
  onepass = option_or new.onepass old.onepass;
  backtrack = option_or new.backtrack old.backtrack;
}
