-- States that read bytes, and their rows of transitions.
use Rattle.std.specs.Prelude.{◌≡◌, ℕ, ◌+◌, ◌<◌, ◌≤◌, List, [], ◌∷◌, length, Option, Some, None, ⊤}
use Rattle.rx_nfa.specs.Automaton.{route, state_at}
use Rattle.rx_nfa.specs.States.{Stands}
use Rattle.rx_nfa.specs.declared.state.Transition.{Transition}
use Rattle.rx_nfa.specs.declared.state.State.{State}
use Rattle.rx_nfa.specs.declared.state.State.TheVariants.{ByteRange, Sparse, Look, Union, Capture, Fail, Match}

-- the byte ranges ascend and share no byte; they lie from `low` on, and below `high`
abbrev pub Ascends : (low high : ℕ) → List Transition → Type 0
Ascends low high [] = low ≤ high
Ascends low high (t ∷ ts) = (low ≤ t.start) × (t.start ≤ t.end) × Ascends (t.end + 1) high ts

-- the byte ranges of the state ascend and share no byte
abbrev pub HasSortedTransitions : State → Type 0
HasSortedTransitions (ByteRange low high next) = Ascends 0 256 (record { start = low; end = high; next = next } ∷ [])
HasSortedTransitions (Sparse transitions) = Ascends 0 256 transitions
HasSortedTransitions (Look look next) = ⊤
HasSortedTransitions (Union alternates) = ⊤
HasSortedTransitions (Capture next pattern slot) = ⊤
HasSortedTransitions Fail = ⊤
HasSortedTransitions (Match pattern) = ⊤

-- on the bytes of the range, to the state `next`
abbrev pub transition_to : (next : ℕ) → ℕ × ℕ → Transition
transition_to next r = record { start = r.0; end = r.1; next = next }

-- the transitions of a state that can only read a byte
abbrev pub reading : State → Option (List Transition)
reading (ByteRange low high next) = Some (transition_to next (low, high) ∷ [])
reading (Sparse transitions) = Some transitions
reading (Look look next) = None
reading (Union alternates) = None
reading (Capture next pattern slot) = None
reading Fail = Some []
reading (Match pattern) = None

-- `IsAt q state`: this state stands at q. The state that stands at q reads a byte by these transitions.
pub record HasReader (IsAt : ℕ → State → Type 0) (q : ℕ) (ts : List Transition) : Type 0 where
  pub state : State
  pub stands : IsAt q state
  pub reads : reading state ≡ Some ts
  pub ascends : Ascends 0 256 ts

-- state q is one of the states from the base on, and reads a byte by these transitions
abbrev pub IsReader : (base : ℕ) → List State → ℕ → List Transition → Type 0
IsReader base states = HasReader (Stands base states)

-- states that only read bytes were added, and none was changed
pub record AddsReaders (old new : List State) : Type 0 where
  pub longer : length old ≤ length new
  pub kept : (q : ℕ) → q < length old → state_at new q ≡ state_at old q
  pub readers : (q : ℕ) → length old ≤ q → q < length new → (ts : List Transition) × (reading (state_at new q) ≡ Some ts) × Ascends 0 256 ts

-- each state that a byte leads to is below n
unfoldable pub RoutesBelow : ℕ → List Transition → Type 0
RoutesBelow n ts = (b q : ℕ) → route ts b ≡ Some q → q < n
