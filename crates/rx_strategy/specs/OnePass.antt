-- Which one-pass DFA a core has, which inputs it serves, and what its cache has room for.
use Rattle.std.specs.Prelude.{◌≡◌, ◌≢◌, ℕ, ◌+◌, ◌*◌, Bool, true, ◌&&◌, ◌||◌, nat_lt, length, Option, Some, None, is_some, IfSome, IsSomeAnd}
use Rattle.rx_model.specs.Expression.{Expression}
use Rattle.rx_model.specs.Look.{word_unicode, word_unicode_negate}
use Rattle.rx_model.specs.Search.{is_anchored}
use Rattle.rx_search.specs.Input.{InputValue}
use Rattle.rx_search.specs.declared.anchored.MatchKind.{MatchKind}
use Rattle.rx_hir.specs.Properties.{explicit_groups, has_look}
use Rattle.rx_hir.specs.PropertiesViews.{AreOf}
use Rattle.rx_hir.specs.declared.hir.properties.Properties.{Properties}
use Rattle.rx_nfa.specs.Nfa.{Nfa}
use Rattle.rx_onepass_build.specs.Config as build
use Rattle.rx_onepass_build.specs.declared.config.Config.{Config as OnePassConfig}
use Rattle.rx_onepass.specs.Dfa.{Dfa, explicit_slots}
use Rattle.rx_onepass.specs.Dfa as cache
use Rattle.rx_onepass.specs.Patterns.{IsBuiltFrom, IsRefusalFrom}
use Rattle.rx_onepass.specs.Search.{taken_as}
use Rattle.rx_onepass.specs.declared.build_error.BuildError.{BuildError}
use Rattle.rx_onepass.specs.declared.build_error.BuildError.TheVariants.{Memory as OutOfMemory}
use Rattle.rx_strategy.specs.Config.{kind_of, byte_classes_of, onepass_of, onepass_size_limit_of}
use Rattle.rx_strategy.specs.Impossible.{is_always_anchored_start}
use Rattle.rx_strategy.specs.declared.config.Config.{Config}
use Rattle.rx_strategy.specs.declared.onepass.OnePass.{OnePass}

-- Which one there is.

-- there are groups to resolve, or a look-around at which a DFA may quit
abbrev pub wants_onepass : Expression → Bool
wants_onepass h = nat_lt 0 (explicit_groups h) || has_look word_unicode h || has_look word_unicode_negate h

-- one of the expression is asked for: one may be used, and the expression wants one
abbrev pub asks_for_onepass : Config → Expression → Bool
asks_for_onepass c h = onepass_of c && wants_onepass h

-- how it is built: with starts for each pattern
abbrev pub onepass_config : Config → OnePassConfig
onepass_config c = record {
  match_kind = Some (kind_of c);
  starts_for_each_pattern = Some true;
  byte_classes = Some (byte_classes_of c);
  size_limit = Some (onepass_size_limit_of c);
}

-- the NFA has none, whatever memory there is
abbrev pub HasNoOnePass : OnePassConfig → Nfa → Type 0
HasNoOnePass config nfa = (e : BuildError) × (e ≢ OutOfMemory) × IsRefusalFrom config nfa e

-- the one of the NFA is there where it is asked for, and the NFA has one
abbrev pub IsOnePassOf : Config → Nfa → Expression → Option Dfa → Type 0
IsOnePassOf c nfa h None = asks_for_onepass c h ≡ true → HasNoOnePass (onepass_config c) nfa
IsOnePassOf c nfa h (Some d) = (asks_for_onepass c h ≡ true) × IsBuiltFrom (onepass_config c) nfa d

-- The one beside the other engines over the NFA, and whether each match begins at the start of the text, of an expression that stands
-- for all patterns.
pub record IsOnePassBeside (c : Config) (nfa : Nfa) (h : Expression) (o : OnePass) : Type 0 where
  pub dfa : IsOnePassOf c nfa h o.dfa
  pub once : o.begins_once ≡ is_always_anchored_start h

-- Which searches it serves.

-- it is there, and the match can begin at one place alone
abbrev pub onepass_serves : OnePass → InputValue → Bool
onepass_serves o v = is_some o.dfa && (o.begins_once || is_anchored v.anchor)

-- the same input, anchored where it is not
abbrev pub begun : InputValue → InputValue
begun v = record v { anchor = taken_as v.anchor }

-- It is over this NFA and of this kind, with starts for each pattern.
pub record IsOnePassOver (nfa : Nfa) (kind : MatchKind) (d : Dfa) : Type 0 where
  pub nfa_is : d.nfa ≡ nfa
  pub kind_is : build.kind_of d.config ≡ kind
  pub each : build.each_of d.config ≡ true

-- what a core's searches ask of it, if it is there
pub record ServesOnce (nfa : Nfa) (kind : MatchKind) (p : Properties) (o : OnePass) : Type 0 where
  pub over : IfSome o.dfa (IsOnePassOver nfa kind)
  pub once : o.begins_once ≡ true → (h : Expression) → AreOf h p → is_always_anchored_start h ≡ true

-- Its cache, which is seen as a number of slots.

-- there is room for its searches, if it is there
abbrev pub FitsOnePass : OnePass → Option ℕ → Type 0
FitsOnePass o room = IfSome o.dfa (λ d. IsSomeAnd room (cache.Fits d.nfa))

-- what is accounted for the cache of one, if there is one: 8 for each slot of an explicit group
abbrev pub accounted_onepass : Option Dfa → ℕ
accounted_onepass None = 0
accounted_onepass (Some d) = 8 * explicit_slots d.nfa

-- what is accounted for its table, if it is there
abbrev pub onepass_memory : Option Dfa → ℕ
onepass_memory None = 0
onepass_memory (Some d) = 8 * length d.table.cells + 4 * length d.starts
