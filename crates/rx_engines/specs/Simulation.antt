-- A simulation by ordered threads: what the threads at a place lead to, and what a step keeps true.
use Rattle.std.specs.Prelude.{◌≡◌, ℕ, zero, suc, ◌+◌, ◌-◌, ◌≤◌, ◌<◌, Bool, true, false, List, [], ◌∷◌, length, replicate, Option, Some, None, is_some, MatchOption, option_map}
use Rattle.std.specs.Option.{option_or}
use Rattle.rx_model.specs.Runs.{Configuration, PriorityGraph, Passed, nowhere, found}
use Rattle.rx_model.specs.Search.{Match}
use Rattle.rx_model.proofs.lemmas.runs.RunLemmas.{weight}
use Rattle.rx_search.specs.Matches.{MatchValue}
use Rattle.rx_nfa.specs.Automaton.{at, automaton, state_at, target_of}
use Rattle.rx_nfa.specs.Ordered.{is_resting, line, passed_at, first_told, first_then, at_rest, first_of_starts}
use Rattle.rx_engines.specs.Walk.{Slots, Answer, answer, pending, write_all, Yields}
use Rattle.rx_nfa.specs.declared.state.State.{State}
use Rattle.rx_nfa.specs.declared.state.State.TheVariants.{ByteRange, Sparse, Look, Union, Capture, Fail, Match as Accepts}
use Rattle.rx_engines.specs.declared.frame.Frame.{Frame}
use Rattle.rx_engines.specs.Threads.{Row, row_at}
use Rattle.rx_engines.specs.Onward.{onto}
use Rattle.rx_engines.specs.declared.onward.Onward.{Onward}
use Rattle.rx_engines.specs.declared.onward.Onward.TheVariants.{Stop, To, Back}
use Rattle.rx_engines.specs.Search.{graph_until, is_offered, may_start, OffersAll, answer_of, next_of}
use Rattle.rx_engines.specs.declared.search.Search.{Search}
use Rattle.rx_engines.specs.declared.pikevm.step.Accepted.{Accepted}

-- how many frames a state leaves on the stack: the alternates after the first, and the old value of a slot
abbrev pub frames_of_state : State → ℕ
frames_of_state (ByteRange low high next) = 0
frames_of_state (Sparse transitions) = 0
frames_of_state (Look look next) = 0
frames_of_state (Union alternates) = length alternates - 1
frames_of_state (Capture next pattern slot) = 1
frames_of_state Fail = 0
frames_of_state (Accepts pattern) = 0

-- the same of the first n states in all
unfoldable pub frames_of_states : List State → ℕ → ℕ
frames_of_states states zero = 0
frames_of_states states (suc n) = frames_of_state (state_at states n) + frames_of_states states n

abbrev pub frames_at : List State → Configuration → ℕ
frames_at states c = frames_of_state (state_at states c.state)

-- how many frames the states that are not in the list will leave at place i
abbrev pub frames_to_come : List State → (i : ℕ) → List ℕ → ℕ
frames_to_come states i items = weight (frames_at states) (line (length states) i) (passed_at items i)

-- an answer with the start of its match
abbrev pub Hit : Type 0
Hit = ℕ × Answer

abbrev pub hit : ℕ → Option Answer → Option Hit
hit start o = option_map (λ a. (start, a)) o

-- what the thread in state q leads to, by its row
abbrev pub resumed : PriorityGraph → Passed → ℕ → List Row → ℕ → Option Hit
resumed g p i rows q = hit (row_at rows q).0 (answer (row_at rows q).1 (found g p (at q i)))

-- the same if a thread rests there
abbrev pub thread : List State → PriorityGraph → Passed → ℕ → List Row → ℕ → Option Hit
thread states g p i rows = at_rest states (resumed g p i rows)

-- the first hit of the threads at place i, in order
abbrev pub among : List State → PriorityGraph → Passed → ℕ → List Row → List ℕ → Option Hit
among states g p i rows qs = first_told (thread states g p i rows) qs

-- the threads at place i, then what the frames lead to, then what comes later
pub record Waits (states : List State) (g : PriorityGraph) (i start : ℕ) (later : Passed → Option Hit) (items : List ℕ) (rows : List Row) (frames : List Frame)
    (slots : Slots) (goal : Option Hit) : Type 0 where
  pub value : first_then (thread states g nowhere i rows) items i (λ p. option_or (hit start (pending (found g p) frames slots)) (later p)) ≡ goal

-- the threads at place i, and then what comes later
pub record Closed (states : List State) (g : PriorityGraph) (i : ℕ) (later : Passed → Option Hit) (items : List ℕ) (rows : List Row)
    (goal : Option Hit) : Type 0 where
  pub value : first_then (thread states g nowhere i rows) items i later ≡ goal

-- A thread from state q adds none at a place where these states were passed.
abbrev pub IsVain : List State → (items : List ℕ) → (q : ℕ) → Type 0
IsVain states items q =
    (terminator : ℕ) (text : List ℕ) (end i : ℕ) → i ≤ end → found (automaton terminator states text end) (passed_at items i) (at q i) ≡ None

-- the state rests, or gives way to others
abbrev pub Visited : (terminator : ℕ) → List State → List ℕ → ℕ → ℕ → Bool → List Frame → List Frame → Slots → Slots → Type 0
Visited terminator states text q i true frames frames' slots slots' = (is_resting (state_at states q) ≡ true) × (frames' ≡ frames) × (slots' ≡ slots)
Visited terminator states text q i false frames frames' slots slots' =
    (is_resting (state_at states q) ≡ false) × ((end : ℕ) → i ≤ end → Yields (automaton terminator states text end) (at q i) frames frames' slots slots')

-- the state that was looked at rests
abbrev pub rests : {T : Type 0} → Onward T → Bool
rests (Stop told) = true
rests (To next place) = false
rests Back = false

-- what a state does at a byte, after which comes the place `after`
abbrev pub act_of : State → Option ℕ → (after : ℕ) → Onward ℕ
act_of (ByteRange low high next) byte after = onto (target_of (record { start = low; end = high; next = next } ∷ []) byte) after
act_of (Sparse transitions) byte after = onto (target_of transitions byte) after
act_of (Look look next) byte after = Back
act_of (Union alternates) byte after = Back
act_of (Capture next pattern slot) byte after = Back
act_of Fail byte after = Back
act_of (Accepts pattern) byte after = Stop pattern

-- a match with its slots, as a hit
abbrev pub best_hit : Option MatchValue → Slots → Option Hit
best_hit None slots = None
best_hit (Some b) slots = Some (b.start, record { pattern = b.pattern; end = b.end; slots = slots })

-- the match of a thread that accepts at the place
abbrev pub until : (place : ℕ) → Accepted → MatchValue
until place a = record { pattern = a.pattern; start = a.start; end = place }

-- what a step over a byte leaves: the threads at the next place, and then a match or what comes later
abbrev pub Stepped : Option Accepted → List State → PriorityGraph → ℕ → (Passed → Option Hit) → List ℕ → List Row → Slots → Option Hit → Type 0
Stepped None states g i later items rows slots goal = Closed states g (i + 1) later items rows goal
Stepped (Some r) states g i later items rows slots goal =
    option_or (among states g nowhere (i + 1) rows items) (best_hit (Some (until i r)) slots) ≡ goal

-- a match as a hit, with so many slots
abbrev pub hit_of : ℕ → Match → Hit
hit_of width m = (m.start, record { pattern = m.trace.pattern; end = m.trace.end; slots = write_all m.trace.writes (replicate width None) })

-- The places from i up to k may be passed: there is no match, no thread is alive, and none starts there.
abbrev pub MayPass : Search → (matched : Bool) → (threads i k : ℕ) → Type 0
MayPass s matched threads i k = (j : ℕ) → i ≤ j → j < k → (matched ≡ false) × (threads ≡ 0) × (is_offered s j ≡ false)

-- where a search goes on from place i, up to which places may be passed; it ends where all that are left may be
abbrev pub GoesOn : Search → (matched : Bool) → (threads i : ℕ) → Option ℕ → Type 0
GoesOn s matched threads i r = MatchOption r (MayPass s matched threads i (s.end + 1)) (λ k. (i ≤ k) × (k ≤ s.end) × MayPass s matched threads i k)

module _ (offered : ℕ → Bool) (s : Search) (end : ℕ) where
  -- the first match that starts at i or after it, past what was passed
  abbrev pub from_starts : Passed → (i : ℕ) → Option Match
  from_starts p i = first_of_starts (graph_until s end) (may_start offered s) s.start (s.last + 1 - i) i p

  -- the best match so far, and else the starts to come
  abbrev pub later_starts : (width : ℕ) → Option Hit → (i : ℕ) → Passed → Option Hit
  later_starts width best i p = option_or best (option_map (hit_of width) (from_starts p i))

-- What was found: for some test that offers all candidates, the match of the places that are offered, with so many slots.
pub record IsFound (s : Search) (earliest : Bool) (width : ℕ) (result : Option MatchValue) (slots : Slots) : Type 0 where
  pub offered : ℕ → Bool
  pub offers : OffersAll s offered
  pub value : best_hit result slots ≡ option_map (hit_of width) (answer_of offered s earliest)
  pub any : is_some result ≡ is_some (next_of offered s)
