-- What an engine is to a contract, and what its searches answer.
use Rattle.std.specs.Prelude.{◌≡◌, ℕ, ◌-◌, ◌*◌, ◌^◌, ◌≤◌, min, List, length, Option, Some, None, not, is_some, if◌then◌else◌}
use Rattle.rx_model.specs.Search.{Match, is_anchored}
use Rattle.rx_search.specs.Input.{InputValue}
use Rattle.rx_search.specs.declared.anchored.MatchKind.{MatchKind}
use Rattle.rx_nfa.specs.Nfa.{Nfa}
use Rattle.rx_nfa.specs.NextMatch.{start_of, next_match_of}
use Rattle.rx_nfa.specs.declared.state.State.{State}
use Rattle.rx_engines.specs.Room.{Room}
use Rattle.rx_engines.specs.Simulation.{frames_of_states}
use Rattle.rx_engines.specs.Search.{first_place}
use Rattle.rx_engines.specs.declared.search.Search.{Search}

pub record PikeVMValue : Type 0 where
  pub nfa : Nfa
  -- which of the matches that begin at one place is reported
  pub kind : MatchKind
  -- the needles of its prefilter, if it has one
  pub pre : Option (List (List ℕ))

-- the next match of the engine's NFA that starts in the input's span and ends by `end`
abbrev pub next_match_by : PikeVMValue → InputValue → (end : ℕ) → Option Match
next_match_by vm v end = next_match_of vm.nfa vm.nfa.utf8 v.haystack v.anchor end v.start

-- Where a search stops: at the end of the span, or with `earliest` at the first place by which a match ends.
abbrev pub stop_in : PikeVMValue → InputValue → ℕ
stop_in vm v = if v.earliest then first_place (λ e. is_some (next_match_by vm v e)) v.end (v.end - v.start) v.start else v.end

-- What a leftmost-first search answers: the next match that ends by the place where it stops. Without `earliest`
-- it is the next match in the input's span.
abbrev pub answer_in : PikeVMValue → InputValue → Option Match
answer_in vm v = next_match_by vm v (stop_in vm v)

-- the place at which a match may start at the latest
abbrev pub last_start : InputValue → ℕ
last_start v = if is_anchored v.anchor then v.start else v.end

-- the search that an engine makes of an input
pub record IsSearchOf (nfa : Nfa) (v : InputValue) (s : Search) : Type 0 where
  pub states : s.states.now ≡ nfa.states
  pub start : start_of nfa v.anchor ≡ Some s.start
  pub text : s.text.now ≡ v.haystack
  pub matcher : s.matcher ≡ nfa.terminator
  pub utf8 : s.utf8 ≡ nfa.utf8
  pub free : s.free ≡ not (is_anchored v.anchor)
  pub first : s.first ≡ v.start
  pub last : s.last ≡ last_start v
  pub end : s.end ≡ v.end
  pub slots : s.slots ≡ nfa.slots
  pub in_order : v.start ≤ v.end

-- the NFA has no match in the input's span, up to whichever end
abbrev pub HasNoMatch : Nfa → InputValue → Type 0
HasNoMatch nfa v = (end : ℕ) → end ≤ v.end → next_match_of nfa nfa.utf8 v.haystack v.anchor end v.start ≡ None

-- The bytes that are accounted for a cache: 16 for each slot of each accounted state, up to the greatest number of
-- 64 bits.
abbrev pub accounted_memory : Nfa → ℕ
accounted_memory nfa = min (2 ^ 64 - 1) (16 * nfa.accounted * nfa.slots)

-- There is room for a search of these states, of which a match has so many slots: each buffer is large enough.
pub record HasRoom (all : List State) (width : ℕ) (room : Room) : Type 0 where
  pub states : length all ≤ room.states
  pub cells : length all * width ≤ room.cells
  pub stack : frames_of_states all (length all) ≤ room.stack
  pub slots : width ≤ room.slots

-- a cache with this room serves the engine
abbrev pub Fits : PikeVMValue → Room → Type 0
Fits vm room = HasRoom vm.nfa.states vm.nfa.slots room
