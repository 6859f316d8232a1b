-- The next match of an NFA: what a search engine answers.
use Rattle.std.specs.Prelude.{ℕ, Bool, List, Option, Some, None, slice_get}
use Rattle.rx_model.specs.Runs.{Trace, first_trace}
use Rattle.rx_model.specs.Search.{Anchor, free, anchored, anchored_to, Match, is_permitted, first_start, starts}
use Rattle.rx_search.specs.Input.{InputValue}
use Rattle.rx_nfa.specs.Automaton.{at, automaton}
use Rattle.rx_nfa.specs.Nfa.{Nfa}
use Rattle.rx_nfa.specs.declared.state.State.{State}

-- the state at which the runs start, where the pattern that is asked for is there
abbrev pub start_of : Nfa → Anchor → Option ℕ
start_of nfa free = Some nfa.start_anchored
start_of nfa anchored = Some nfa.start_anchored
start_of nfa (anchored_to p) = slice_get nfa.starts p

-- what the first run from this state tells, where there is such a state
abbrev pub first_from : (terminator : ℕ) → List State → List ℕ → (end : ℕ) → Option ℕ → ℕ → Option Trace
first_from terminator states text end None i = None
first_from terminator states text end (Some q) i = first_trace (automaton terminator states text end) (at q i)

-- the next match in a..b
unfoldable pub next_match_of : Nfa → Bool → List ℕ → Anchor → (b a : ℕ) → Option Match
next_match_of nfa utf8_empty text anchor b a =
    first_start (is_permitted utf8_empty text) (first_from nfa.terminator nfa.states text b (start_of nfa anchor)) (starts anchor a b) a

-- the next match of the NFA in the input's span
abbrev pub next_match_in : Nfa → InputValue → Option Match
next_match_in nfa v = next_match_of nfa nfa.utf8 v.haystack v.anchor v.end v.start
