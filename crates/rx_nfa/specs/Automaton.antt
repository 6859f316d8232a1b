-- The states of an NFA as a machine over the places of a text, which is read forwards or backwards.
use Rattle.std.specs.Prelude.{◌≡◌, ℕ, suc, ◌+◌, ◌-◌, ◌<◌, Bool, false, ◌&&◌, List, [], ◌∷◌, length, map, All, ⊤, Option, Some, None, if◌then◌else◌, nat_lt, nat_le, slice_index, slice_index_or}
use Rattle.rx_model.specs.Look as model
use Rattle.rx_model.specs.Look.{holds}
use Rattle.rx_model.specs.Runs.{Configuration, PriorityGraph}
use Rattle.rx_model.specs.Machine.{Machine, graph_of}
use Rattle.rx_search.specs.Look.{kind_of, is_same_kind}
use Rattle.rx_nfa.specs.declared.state.Transition.{Transition}
use Rattle.rx_nfa.specs.declared.state.State.{State}
use Rattle.rx_nfa.specs.declared.state.State.TheVariants.{ByteRange, Sparse, Look, Union, Capture, Fail, Match}

abbrev pub at : ℕ → ℕ → Configuration
at state place = record { state = state; place = place }

-- the state that the byte leads to
abbrev pub route : List Transition → ℕ → Option ℕ
route [] b = None
route (t ∷ ts) b = if nat_le t.start b && nat_le b t.end then Some t.next else route ts b

-- on to the target, if there is one
abbrev pub go_on : Option ℕ → ℕ → List Configuration
go_on None place = []
go_on (Some target) place = at target place ∷ []

-- the byte at a place of the text
abbrev pub byte_of : List ℕ → (place : ℕ) → ℕ
byte_of text place = slice_index text place

-- What stands at a place: the byte that is read there, and whether a look-around holds there.
-- No lemma is proved twice for it (DECISIONS: an automaton takes the byte and the look-arounds at a place as parameters).
pub record Surroundings : Type 0 where
  pub byte : (place : ℕ) → ℕ
  pub looks : (kind : model.Look) (place : ℕ) → Bool

-- A place is the distance from the start of the text. A look-around holds by the whole text, where the terminator ends lines.
abbrev pub forwards : (terminator : ℕ) → List ℕ → Surroundings
forwards terminator text = record {
  byte = byte_of text;
  looks = λ kind place. holds terminator text kind place;
}

-- A place is the distance from the end of the text. The byte that is read there is the one before it.
abbrev pub backwards : (terminator : ℕ) → List ℕ → Surroundings
backwards terminator text = record {
  byte = λ place. byte_of text (length text - suc place);
  looks = λ kind place. holds terminator text kind (length text - place);
}

-- the byte at the place, if it lies before the end
abbrev pub byte_within : (byte : ℕ → ℕ) → (end place : ℕ) → Option ℕ
byte_within byte end place = if nat_lt place end then Some (byte place) else None

-- the same in a text that is read forwards
abbrev pub byte_at : List ℕ → (end place : ℕ) → Option ℕ
byte_at text end place = byte_within (byte_of text) end place

-- where the byte leads to, if there is one
abbrev pub target_of : List Transition → Option ℕ → Option ℕ
target_of transitions None = None
target_of transitions (Some byte) = route transitions byte

-- where a configuration stands that was reached from this place: its state, and how many places on
abbrev pub onward : (place : ℕ) → Configuration → ℕ × ℕ
onward place c = (c.state, c.place - place)

-- by these transitions, before the place `end`
abbrev pub read_byte : (byte : ℕ → ℕ) → (end : ℕ) → List Transition → (place : ℕ) → List Configuration
read_byte byte end ts i = if nat_lt i end then go_on (route ts (byte i)) (i + 1) else []

-- where a state goes on to from place i, up to the place `end`
abbrev pub state_step : Surroundings → (end : ℕ) → State → (place : ℕ) → List Configuration
state_step around end (ByteRange low high next) i = read_byte around.byte end (record { start = low; end = high; next = next } ∷ []) i
state_step around end (Sparse transitions) i = read_byte around.byte end transitions i
state_step around end (Look look next) i = if around.looks (kind_of look) i then at next i ∷ [] else []
state_step around end (Union alternates) i = map (λ q. at q i) alternates
state_step around end (Capture next pattern slot) i = at next i ∷ []
state_step around end Fail i = []
state_step around end (Match pattern) i = []

abbrev pub state_accepts : State → Option ℕ
state_accepts (ByteRange low high next) = None
state_accepts (Sparse transitions) = None
state_accepts (Look look next) = None
state_accepts (Union alternates) = None
state_accepts (Capture next pattern slot) = None
state_accepts Fail = None
state_accepts (Match pattern) = Some pattern

abbrev pub state_writes : State → Option ℕ
state_writes (ByteRange low high next) = None
state_writes (Sparse transitions) = None
state_writes (Look look next) = None
state_writes (Union alternates) = None
state_writes (Capture next pattern slot) = Some slot
state_writes Fail = None
state_writes (Match pattern) = None

-- the state of this number
abbrev pub state_at : List State → ℕ → State
state_at states q = slice_index_or states q Fail

-- no two of the states accept one pattern
abbrev pub AcceptsOnce : List State → Type 0
AcceptsOnce states = (p q r : ℕ) → state_accepts (state_at states q) ≡ Some p → state_accepts (state_at states r) ≡ Some p → q ≡ r

abbrev pub machine : Surroundings → List State → (end : ℕ) → Machine
machine around states end = record {
  states = length states;
  step = λ q. state_step around end (state_at states q);
  accepts = λ q. state_accepts (state_at states q);
  writes = λ q. state_writes (state_at states q);
}

-- the runs of the states over the places up to `end`
unfoldable pub automaton_over : Surroundings → List State → (end : ℕ) → PriorityGraph
automaton_over around states end = graph_of (machine around states end) end

-- the same over the first `end` bytes of a text that is read forwards, where the terminator ends lines
abbrev pub automaton : (terminator : ℕ) → List State → List ℕ → (end : ℕ) → PriorityGraph
automaton terminator states text end = automaton_over (forwards terminator text) states end

-- each state that this one goes on to is below n
abbrev pub NamesBelow : ℕ → State → Type 0
NamesBelow n (ByteRange low high next) = next < n
NamesBelow n (Sparse transitions) = All (λ (t : Transition). t.next < n) transitions
NamesBelow n (Look look next) = next < n
NamesBelow n (Union alternates) = All (λ q. q < n) alternates
NamesBelow n (Capture next pattern slot) = next < n
NamesBelow n Fail = ⊤
NamesBelow n (Match pattern) = ⊤

-- the pattern and the slot that the state names are in range
abbrev pub IsWithin : (patterns slots : ℕ) → State → Type 0
IsWithin patterns slots (ByteRange low high next) = ⊤
IsWithin patterns slots (Sparse transitions) = ⊤
IsWithin patterns slots (Look look next) = ⊤
IsWithin patterns slots (Union alternates) = ⊤
IsWithin patterns slots (Capture next pattern slot) = (pattern < patterns) × (slot < slots)
IsWithin patterns slots Fail = ⊤
IsWithin patterns slots (Match pattern) = pattern < patterns

-- the state asks whether a look-around of this kind holds
abbrev pub asks_for : model.Look → State → Bool
asks_for kind (ByteRange low high next) = false
asks_for kind (Sparse transitions) = false
asks_for kind (Look look next) = is_same_kind kind (kind_of look)
asks_for kind (Union alternates) = false
asks_for kind (Capture next pattern slot) = false
asks_for kind Fail = false
asks_for kind (Match pattern) = false
