-- What an NFA is to a contract, and what it has to do with the patterns that it was built from.
use Rattle.std.specs.Prelude.{◌≡◌, ℕ, ◌-◌, ◌<◌, ◌≤◌, ◌↔◌, Bool, List, length, All, Option, Some, option_map, slice_get, slice_index}
use Rattle.std.specs.List.{list_any}
use Rattle.rx_model.specs.Expression.{Expression}
use Rattle.rx_model.specs.Look.{Look}
use Rattle.rx_model.specs.Meaning.{Means}
use Rattle.rx_model.specs.Runs.{Leads, Sieve, sieved, first_trace}
use Rattle.rx_model.specs.Search.{Patterns, told, first, first_where, first_of_patterns, first_of_patterns_where}
use Rattle.rx_search.specs.GroupInfo.{slot_count}
use Rattle.rx_search.specs.LookSet.{has}
use Rattle.rx_search.specs.Limits.{id_limit}
use Rattle.rx_nfa.specs.Automaton.{at, automaton, automaton_over, backwards, asks_for, AcceptsOnce, NamesBelow, IsWithin}
use Rattle.rx_nfa.specs.ByteClasses.{AreClassesOf}
use Rattle.rx_nfa.specs.Row.{HasSortedTransitions}
use Rattle.rx_nfa.specs.Slots.{WritesOwnSlots}
use Rattle.rx_nfa.specs.declared.state.State.{State}

pub record Nfa : Type 0 where
  pub states : List State
  -- where the runs of all the patterns start, the first pattern preferred
  pub start_anchored : ℕ
  -- where the runs of each pattern start
  pub starts : List ℕ
  -- how many slots there are
  pub slots : ℕ
  -- the groups of each pattern, by their names
  pub groups : List (List (Option (List ℕ)))
  -- no match is to start inside a character
  pub utf8 : Bool
  -- it reads texts backwards
  pub reverse : Bool
  -- the byte that ends lines, where a look-around asks for that
  pub terminator : ℕ
  -- the kinds of look-around that the states ask for, as a set
  pub looks : ℕ
  -- the class of each byte
  pub classes : List ℕ
  -- each of the patterns begins with the start of the text
  pub always_start_anchored : Bool
  -- one of the patterns can match the empty string, where each look-around counts as if it held
  pub has_empty : Bool
  -- how many states were accounted for the patterns
  pub accounted : ℕ

-- every state, pattern and slot that is named is there, the slots are those of the groups, and each that is written is one
-- of its pattern; each pattern is accepted at one state alone; transitions are sorted, the look-arounds are those of the states, and
-- the classes of bytes tell apart what they tell apart
pub record IsInRange (nfa : Nfa) : Type 0 where
  pub start_anchored : nfa.start_anchored < length nfa.states
  pub starts : All (λ q. q < length nfa.states) nfa.starts
  pub names : All (NamesBelow (length nfa.states)) nfa.states
  pub within : All (IsWithin (length nfa.starts) nfa.slots) nfa.states
  pub slots : nfa.slots ≡ slot_count nfa.groups
  pub own : All (WritesOwnSlots nfa.groups) nfa.states
  pub once : AcceptsOnce nfa.states
  pub sorted : All HasSortedTransitions nfa.states
  pub looks : (kind : Look) → has nfa.looks kind ≡ list_any (asks_for kind) nfa.states
  pub classes : AreClassesOf nfa.terminator nfa.states nfa.classes
  pub few_states : length nfa.states ≤ id_limit
  pub few_patterns : length nfa.starts ≤ id_limit
  pub few_accounted : nfa.accounted ≤ id_limit

-- Wherever acceptance is permitted, by pattern and place, the first runs of the states are those of the patterns' graphs
-- where it is permitted so, with pattern and end, and with slots where captures are asked for.
-- It serves engines that come too (DECISIONS: an NFA promises the first runs wherever acceptance is permitted).
pub record HasRuns (nfa : Nfa) (r : Patterns) : Type 0 where
  pub patterns : length nfa.starts ≡ length r.expressions
  -- from the start of each pattern
  pub each : (ok : Sieve) (text : List ℕ) (end p i : ℕ) (h : Expression) → end ≤ length text → slice_get r.expressions p ≡ Some h
      → first_trace (sieved ok (automaton nfa.terminator nfa.states text end)) (at (slice_index nfa.starts p) i) ≡ option_map (told r.which_captures)
      (first_where ok r text end p h i)
  -- from the common start, the first over the patterns in order
  pub all : (ok : Sieve) (text : List ℕ) (end i : ℕ) → end ≤ length text
      → first_trace (sieved ok (automaton nfa.terminator nfa.states text end)) (at nfa.start_anchored i) ≡ option_map (told r.which_captures)
      (first_of_patterns_where ok r text end 0 r.expressions i)

-- The first runs of the states are those of the patterns' graphs, with pattern and end, and with slots where captures are
-- asked for.
pub record HasFirstRuns (nfa : Nfa) (r : Patterns) : Type 0 where
  pub patterns : length nfa.starts ≡ length r.expressions
  pub each : (text : List ℕ) (end p i : ℕ) (h : Expression) → end ≤ length text → slice_get r.expressions p ≡ Some h
      → first_trace (automaton nfa.terminator nfa.states text end) (at (slice_index nfa.starts p) i) ≡ option_map (told r.which_captures)
      (first r text end p h i)
  pub all : (text : List ℕ) (end i : ℕ) → end ≤ length text
      → first_trace (automaton nfa.terminator nfa.states text end) (at nfa.start_anchored i) ≡ option_map (told r.which_captures)
      (first_of_patterns r text end 0 r.expressions i)

-- A walk of the automaton, which reads the text backwards from place j, leads from the state to acceptance of the pattern at
-- place i. A place is a distance from the end there.
abbrev pub LeadsBack : Nfa → (text : List ℕ) → (end state p i j : ℕ) → Type 0
LeadsBack nfa text end state p i j =
    (n : ℕ) × Leads (automaton_over (backwards nfa.terminator text) nfa.states end) p (length text - i) n (at state (length text - j))

-- Read backwards, and no further than to the place `first`, the states come from j to acceptance of a pattern at exactly the
-- places i where its expression means i..j.
pub record HasReverseRuns (nfa : Nfa) (r : Patterns) : Type 0 where
  pub patterns : length nfa.starts ≡ length r.expressions
  -- from the start of each pattern, of this pattern alone
  pub each : (text : List ℕ) (first p q i j : ℕ) (h : Expression) → first ≤ i → i ≤ length text → j ≤ length text → slice_get r.expressions p ≡ Some h
      → LeadsBack nfa text (length text - first) (slice_index nfa.starts p) q i j ↔ ((q ≡ p) × Means r.terminator text h i j)
  -- from the common start
  pub all : (text : List ℕ) (first q i j : ℕ) → first ≤ i → i ≤ length text → j ≤ length text
      → LeadsBack nfa text (length text - first) nfa.start_anchored q i j ↔
      ((h : Expression) × (slice_get r.expressions q ≡ Some h) × Means r.terminator text h i j)

-- the NFA has the runs of these patterns, and both permit the same starts
pub record IsNfaOf (nfa : Nfa) (r : Patterns) : Type 0 where
  pub runs : HasRuns nfa r
  pub utf8 : r.utf8_empty ≡ nfa.utf8
