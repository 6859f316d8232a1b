-- Ordered lists of states at a place: the first success on a list, its closure, and its step over a byte.
--
-- A simulation keeps, at each place, the states in which its threads stand, the preferred one first. What the list leads to
-- is the first success among its states: the pattern of the match, and its end. The closure of a list, its step over a byte
-- and the cut behind the first state that accepts keep that.
use Rattle.std.specs.Prelude.{◌≡◌, ℕ, zero, suc, ◌+◌, ◌-◌, ◌<◌, ◌≤◌, Bool, true, false, not, ◌&&◌, ◌||◌, List, [], ◌∷◌, ◌++◌, length, map, All, Option, Some, None, option_map, is_some, if◌then◌else◌, ◌==◌}
use Rattle.std.specs.Option.{option_or}
use Rattle.rx_model.specs.Look as model
use Rattle.rx_model.specs.Runs.{Configuration, PriorityGraph, Passed, and_at, Trace, found, is_among, IsBounded, NeverFalls}
use Rattle.rx_model.specs.Search.{Anchor, Match as Found, is_anchored, is_permitted, first_start}
use Rattle.rx_search.specs.Look.{kind_of}
use Rattle.rx_search.specs.Matches.{HalfMatchValue}
use Rattle.rx_search.specs.declared.look.Look.{Look as LookKind}
use Rattle.rx_nfa.specs.Automaton.{at, route, state_at, state_accepts, Surroundings, forwards, state_step}
use Rattle.rx_nfa.specs.Nfa.{Nfa}
use Rattle.rx_nfa.specs.declared.state.State.{State}
use Rattle.rx_nfa.specs.declared.state.State.TheVariants.{ByteRange, Sparse, Look, Union, Capture, Fail, Match}

-- Sets of states at a place.

-- the state is one of these
abbrev pub has : List ℕ → ℕ → Bool
has [] q = false
has (x ∷ xs) q = (x == q) || has xs q

-- each of these states is below n
abbrev pub AreBelow : ℕ → List ℕ → Type 0
AreBelow n qs = All (λ q. q < n) qs

-- the states below n, at place i
abbrev pub line : ℕ → ℕ → List Configuration
line zero i = []
line (suc n) i = at n i ∷ line n i

-- the states of the list, at place i, were passed
abbrev pub passed_at : List ℕ → ℕ → Passed
passed_at items i c = is_among (map (λ q. at q i) items) c

-- The first on a list.

-- what the first of the states tells that tells anything
abbrev pub first_told : {A : Type 0} → (ℕ → Option A) → List ℕ → Option A
first_told tell [] = None
first_told tell (q ∷ qs) = option_or (tell q) (first_told tell qs)

-- what the first state on the list tells, and then what comes later, past the states of the list at place i
abbrev pub first_then : {A : Type 0} → (ℕ → Option A) → List ℕ → (i : ℕ) → (later : Passed → Option A) → Option A
first_then tell qs i later = option_or (first_told tell qs) (later (passed_at qs i))

-- what comes later stays the same where a configuration that leads to nothing counts as passed
abbrev pub IsStable : {A : Type 0} → PriorityGraph → (Passed → Option A) → Type 0
IsStable g later = (p : Passed) (x : Configuration) → found g p x ≡ None → later p ≡ later (and_at x p)

-- the pattern of a run, and where it ends
abbrev pub half : Trace → HalfMatchValue
half t = record { pattern = t.pattern; offset = t.end }

-- what the state leads to from place i, past what was passed
abbrev pub tell : PriorityGraph → Passed → (i : ℕ) → ℕ → Option HalfMatchValue
tell g p i q = option_map half (found g p (at q i))

-- the first success on the list at place i
abbrev pub first_on : PriorityGraph → Passed → (i : ℕ) → List ℕ → Option HalfMatchValue
first_on g p i qs = first_told (tell g p i) qs

-- The closure.

-- a thread stays at this state until a byte is read
abbrev pub is_resting : State → Bool
is_resting (ByteRange low high next) = true
is_resting (Sparse transitions) = true
is_resting (Look look next) = false
is_resting (Union alternates) = false
is_resting (Capture next pattern slot) = false
is_resting Fail = false
is_resting (Match pattern) = true

-- what a state tells, if a thread stays there
abbrev pub at_rest : {A : Type 0} → List State → (ℕ → Option A) → ℕ → Option A
at_rest states tell q = if is_resting (state_at states q) then tell q else None

-- the states of the list at which a thread stays
abbrev pub resting : List State → List ℕ → List ℕ
resting states [] = []
resting states (q ∷ qs) = if is_resting (state_at states q) then q ∷ resting states qs else resting states qs

-- Where a state goes on to at its place, where this look-around holds, the preferred one first.
abbrev pub epsilon_successors : (model.Look → Bool) → State → List ℕ
epsilon_successors holding (ByteRange low high next) = []
epsilon_successors holding (Sparse transitions) = []
epsilon_successors holding (Look look next) = if holding (kind_of look) then next ∷ [] else []
epsilon_successors holding (Union alternates) = alternates
epsilon_successors holding (Capture next pattern slot) = next ∷ []
epsilon_successors holding Fail = []
epsilon_successors holding (Match pattern) = []

-- Depth first, in order of preference, each state once: the states that were `seen` before, and then those that the stack
-- leads to at its place. At most `room` states are new.
unfoldable pub close : List State → (model.Look → Bool) → (room : ℕ) → (stack seen : List ℕ) → List ℕ
close states holding zero stack seen = seen
close states holding (suc room) [] seen = seen
close states holding (suc room) (q ∷ stack) seen =
    if has seen q then close states holding (suc room) stack seen
    else close states holding room (epsilon_successors holding (state_at states q) ++ stack) (seen ++ q ∷ [])

-- The states at which the threads stay that begin in these states: those of their closure, where this look-around holds.
abbrev pub threads_from : List State → (model.Look → Bool) → List ℕ → List ℕ
threads_from states holding qs = resting states (close states holding (length states) qs [])

-- Of the kinds that the states ask for, this look-around holds at place i.
abbrev pub HoldsAt : Surroundings → List State → (model.Look → Bool) → (i : ℕ) → Type 0
HoldsAt around states holding i =
    (q next : ℕ) (look : LookKind) → state_at states q ≡ Look look next → holding (kind_of look) ≡ around.looks (kind_of look) i

-- The step over a byte.

-- the state that the byte leads to
abbrev pub target : State → (byte : ℕ) → Option ℕ
target (ByteRange low high next) byte = route (record { start = low; end = high; next = next } ∷ []) byte
target (Sparse transitions) byte = route transitions byte
target (Look look next) byte = None
target (Union alternates) byte = None
target (Capture next pattern slot) byte = None
target Fail byte = None
target (Match pattern) byte = None

-- before these the state, if it is there
abbrev pub with_target : Option ℕ → List ℕ → List ℕ
with_target None qs = qs
with_target (Some q) qs = q ∷ qs

-- the states that the byte leads to from these, in order
abbrev pub targets : List State → (byte : ℕ) → List ℕ → List ℕ
targets states byte [] = []
targets states byte (q ∷ qs) = with_target (target (state_at states q) byte) (targets states byte qs)

-- the pattern that the graph accepts at place i, by state
abbrev pub accepts_at : PriorityGraph → (i : ℕ) → ℕ → Option ℕ
accepts_at g i q = g.accepted (at q i)

-- up to and with the first state that accepts
abbrev pub cut : (accepts : ℕ → Option ℕ) → List ℕ → List ℕ
cut accepts [] = []
cut accepts (q ∷ qs) = if is_some (accepts q) then q ∷ [] else q ∷ cut accepts qs

-- the match of the first of these states that accepts, at place i
abbrev pub match_here : (accepts : ℕ → Option ℕ) → (i : ℕ) → List ℕ → Option HalfMatchValue
match_here accepts i qs = option_map (λ p. record { pattern = p; offset = i }) (first_told accepts qs)

-- The graph has the steps of the automaton, up to the end, and accepts nothing at a state that accepts nothing. What it
-- accepts at the others is left open.
pub record HasSteps (around : Surroundings) (states : List State) (end : ℕ) (g : PriorityGraph) : Type 0 where
  pub bounded : IsBounded g
  pub rises : NeverFalls g
  pub steps : (q i : ℕ) → q < length states → i ≤ end → g.successors (at q i) ≡ state_step around end (state_at states q) i
  pub accepts : (q i : ℕ) → q < length states → i ≤ end → state_accepts (state_at states q) ≡ None → g.accepted (at q i) ≡ None

-- The starts to come.

-- the first match that starts at one of the n places from i on, where a match may start
abbrev pub first_of_starts : PriorityGraph → (may : ℕ → Bool) → (start n i : ℕ) → Passed → Option Found
first_of_starts g may start n i p = first_start may (λ j. found g p (at start j)) n i

-- what comes later, if it counts
abbrev pub where_there : {A : Type 0} → Bool → Option A → Option A
where_there true o = o
where_there false o = None

-- the start, if a thread begins there
abbrev pub begun : (start : ℕ) → Bool → List ℕ
begun start true = start ∷ []
begun start false = []

-- A search by lists, along the n bytes from place i on. These states were come to over the last byte; behind them a thread
-- begins at each place where a match may start, while the starts to come count (`loops`). Where a thread accepts, those
-- behind it and the starts to come are given up: its match is better than the best before.
unfoldable pub list_search : Surroundings → List State → (accepts : (place state : ℕ) → Option ℕ) → (may : ℕ → Bool) → (start n i : ℕ)
    → (loops : Bool) → List ℕ → (best : Option HalfMatchValue) → Option HalfMatchValue
list_search around states accepts may start zero i loops qs best =
    option_or (match_here (accepts i) i (threads_from states (λ kind. around.looks kind i) (qs ++ begun start (loops && may i)))) best
list_search around states accepts may start (suc n) i loops qs best =
    let threads = threads_from states (λ kind. around.looks kind i) (qs ++ begun start (loops && may i)) in
    let found = match_here (accepts i) i threads in
    let goes_on = targets states (around.byte i) (cut (accepts i) threads) in
    list_search around states accepts may start n (i + 1) (loops && not (is_some found)) goes_on (option_or found best)

-- the same for an NFA whose runs start at this state, in a..b
abbrev pub list_search_of : Nfa → (utf8_empty : Bool) → List ℕ → Anchor → (b a start : ℕ) → Option HalfMatchValue
list_search_of nfa utf8_empty text anchor b a start =
    list_search (forwards nfa.terminator text) nfa.states (λ i q. state_accepts (state_at nfa.states q)) (is_permitted utf8_empty text) start (b - a) a
    (not (is_anchored anchor)) (begun start (is_anchored anchor && is_permitted utf8_empty text a)) None
