-- The threads at a place, one after the other, over a byte.
use Rattle.std.proofs.Common.{◌≡◌, ◌⊎◌, ℕ, suc, ◌+◌, ◌≤◌, ◌<◌, List, [], ◌∷◌, length, drop, refl, sym, ◌∙◌, ap, subst, inl, inr, arith, get_or}
use Rattle.std.proofs.Math.Seq.{drop-cons}
use Rattle.std.proofs.lemmas.List.{drop_all}
use Rattle.std.specs.Prelude.{true, false, Option, Some, None, option_map, All, nat_lt}
use Rattle.std.specs.Option.{option_or}
use Rattle.rx_model.specs.Runs.{PriorityGraph, Passed, nowhere, and_at, same, with_write, found, IsBounded, NeverFalls}
use Rattle.rx_model.proofs.lemmas.runs.RunLemmas.{by_test}
use Rattle.rx_model.proofs.lemmas.runs.FoundLemmas.{found-accepted, found-prune}
use Rattle.std.proofs.lemmas.List.Elements.{All-nil, All-cons}
use Rattle.std.proofs.lemmas.Bool.Decides.{nat_tests}
use Rattle.rx_nfa.specs.Automaton.{automaton, route, read_byte, state_step, state_accepts, state_writes, NamesBelow, forwards, byte_of, byte_at, target_of}
use Rattle.rx_nfa.specs.declared.state.Transition.{Transition}
use Rattle.rx_nfa.specs.declared.state.State.TheVariants.{ByteRange, Sparse, Look, Union, Capture, Fail, Match as Accepts}
use Rattle.rx_nfa.proofs.lemmas.runs.StateLemmas.{accepted-is, successors-is, written-is, state-known, names-known, read_byte-taken, read_byte-dead}
use Rattle.rx_engines.specs.Simulation.{act_of}
use Rattle.rx_engines.specs.Onward.{onto}
use Rattle.rx_engines.specs.declared.onward.Onward.{Onward}
use Rattle.rx_engines.specs.declared.onward.Onward.TheVariants.{Stop, To, Back}
use Rattle.rx_nfa.proofs.lemmas.runs.AutomatonLemmas.{automaton-bounded}
use Rattle.rx_nfa.specs.Automaton.{at, state_at}
use Rattle.rx_engines.specs.Walk.{answer, pending}
use Rattle.rx_nfa.specs.declared.state.State.{State}
use Rattle.rx_engines.specs.declared.frame.Frame.TheVariants.{Explore}
use Rattle.rx_model.proofs.lemmas.runs.OptionLemmas.{or-none_right, or-assoc}
use Rattle.rx_model.proofs.lemmas.runs.WriteLemmas.{write-nothing}
use Rattle.rx_engines.specs.Threads.{Row, row_at}
use Rattle.rx_nfa.specs.Ordered.{is_resting, passed_at, IsStable}
use Rattle.rx_engines.specs.Simulation.{Hit, hit, thread, among, Waits, Closed}
use Rattle.rx_nfa.proofs.lemmas.lists.PlaceLemmas.{passed_at-elsewhere}
use Rattle.rx_nfa.proofs.lemmas.lists.TargetLemmas.{route-below, found-dead, found-reads}
use Rattle.rx_engines.proofs.lemmas.threads.SimulationLemmas.{among-alike}

-- The threads put aside at the next place, then those that are left at this one, then what comes later.
pub record Stepping (states : List State) (g : PriorityGraph) (i : ℕ) (later : Passed → Option Hit) (rows : List Row) (left : List ℕ) (items : List ℕ)
    (rows' : List Row) (goal : Option Hit) : Type 0 where
  pub value : option_or (among states g nowhere (i + 1) rows' items)
      (option_or (among states g (passed_at items (i + 1)) i rows left) (later (passed_at items (i + 1)))) ≡ goal

-- the threads after the first k
abbrev pub onward : List State → PriorityGraph → ℕ → List Row → List ℕ → (Passed → Option Hit) → Passed → Option Hit
onward states g i rows left later p = option_or (among states g p i rows left) (later p)

module _ (states : List State) (g : PriorityGraph) where
  pub among-left : (p : Passed) (i : ℕ) (rows : List Row) (qs : List ℕ) (k q : ℕ) → k < length qs → q ≡ get_or qs k 0
      → among states g p i rows (drop k qs) ≡ option_or (thread states g p i rows q) (among states g p i rows (drop (k + 1) qs))
  among-left p i rows qs k q lt is =
      let more : suc k ≡ k + 1 = omega arith in
      ap (among states g p i rows) (drop-cons qs k 0 lt ∙ (λ j. sym is j ∷ drop (more j) qs))

  pub among-over : (p : Passed) (i : ℕ) (rows : List Row) (qs : List ℕ) (k : ℕ) → length qs ≤ k → among states g p i rows (drop k qs) ≡ None
  among-over p i rows qs k le = ap (among states g p i rows) (drop_all k qs le)

  pub among-empty : (p : Passed) (i : ℕ) (rows : List Row) (qs : List ℕ) → qs ≡ [] → among states g p i rows qs ≡ None
  among-empty p i rows qs e = ap (among states g p i rows) e

  pub onward-stable : (i : ℕ) (rows : List Row) (left : List ℕ) (later : Passed → Option Hit) → IsStable g later
      → IsStable g (onward states g i rows left later)
  onward-stable i rows left later stable p x nothing j =
      option_or (among-alike states g p (and_at x p) (λ c. found-prune g p x c nothing) i rows left j) (stable p x nothing j)

module _ (states : List State) (g : PriorityGraph) (i : ℕ) (rows : List Row) (q : ℕ) (bounded : IsBounded g) (p : Passed) (new : p (at q i) ≡ false) where
  pub thread-accepts : (pattern : ℕ) → is_resting (state_at states q) ≡ true → g.accepted (at q i) ≡ Some pattern
      → thread states g p i rows q ≡ Some ((row_at rows q).0, record { pattern = pattern; end = i; slots = (row_at rows q).1 })
  thread-accepts pattern rests accepts = rw (rests, found-accepted g p bounded (at q i) pattern new accepts) refl

  pub thread-reads : NeverFalls g → (next : ℕ) → is_resting (state_at states q) ≡ true → g.accepted (at q i) ≡ None → g.written (at q i) ≡ None
      → g.successors (at q i) ≡ at next (i + 1) ∷ []
      → thread states g p i rows q ≡ hit (row_at rows q).0 (answer (row_at rows q).1 (found g p (at next (i + 1))))
  thread-reads rises next rests none unwritten goes =
      rw rests (ap (λ o. hit (row_at rows q).0 (answer (row_at rows q).1 o))
      (found-reads g bounded rises p (at q i) (at next (i + 1)) new none goes (omega arith)
      ∙ ap (λ w. option_map (with_write w i) (found g p (at next (i + 1)))) unwritten
      ∙ write-nothing i (found g p (at next (i + 1)))))

  pub thread-ends : (is_resting (state_at states q) ≡ false) ⊎ ((g.accepted (at q i) ≡ None) × (g.successors (at q i) ≡ [])) → thread states g p i rows q ≡ None
  thread-ends (inl moves) = rw moves refl
  thread-ends (inr dead) =
      by_test (is_resting (state_at states q))
      (λ e. rw e (ap (λ o. hit (row_at rows q).0 (answer (row_at rows q).1 o)) (found-dead g bounded p (at q i) new dead.0 dead.1)))
      (λ e. rw e refl)

not-here : (items : List ℕ) (q i : ℕ) → passed_at items (i + 1) (at q i) ≡ false
not-here items q i = passed_at-elsewhere items (i + 1) (at q i) (omega arith)

module _ {states : List State} {g : PriorityGraph} {i : ℕ} {later : Passed → Option Hit} {rows : List Row} {items : List ℕ} {rows' : List Row}
    {goal : Option Hit}
    (bounded : IsBounded g) (qs : List ℕ) (k q : ℕ) (lt : k < length qs) (here : q ≡ get_or qs k 0)
    (s : Stepping states g i later rows (drop k qs) items rows' goal) where
  -- the first of the threads stands alone
  parted : option_or (among states g nowhere (i + 1) rows' items)
      (option_or (thread states g (passed_at items (i + 1)) i rows q) (onward states g i rows (drop (k + 1) qs) later (passed_at items (i + 1)))) ≡ goal
  parted =
      ap (option_or (among states g nowhere (i + 1) rows' items))
      (sym (or-assoc (thread states g (passed_at items (i + 1)) i rows q) (among states g (passed_at items (i + 1)) i rows (drop (k + 1) qs))
      (later (passed_at items (i + 1)))))
      ∙ ap (λ o. option_or (among states g nowhere (i + 1) rows' items) (option_or o (later (passed_at items (i + 1)))))
      (sym (among-left states g (passed_at items (i + 1)) i rows qs k q lt here))
      ∙ s.value

  pub Stepping-accepts : (pattern : ℕ) → is_resting (state_at states q) ≡ true → g.accepted (at q i) ≡ Some pattern
      → option_or (among states g nowhere (i + 1) rows' items) (Some (
        (row_at rows q).0,
        record { pattern = pattern; end = i; slots = (row_at rows q).1 },
      )) ≡ goal
  Stepping-accepts pattern rests accepts = rw (thread-accepts states g i rows q bounded (passed_at items (i + 1)) (not-here items q i) pattern rests accepts) at
      parted

  pub Stepping-reads : NeverFalls g → (next : ℕ) → is_resting (state_at states q) ≡ true → g.accepted (at q i) ≡ None → g.written (at q i) ≡ None
      → g.successors (at q i) ≡ at next (i + 1) ∷ []
      → Waits states g (i + 1) (row_at rows q).0 (onward states g i rows (drop (k + 1) qs) later) items rows' (Explore next (i + 1) ∷ []) (row_at rows q).1 goal
  unfolding pending
  Stepping-reads rises next rests none unwritten goes = record {
    value =
        ap (λ o. option_or (among states g nowhere (i + 1) rows' items)
        (option_or (hit (row_at rows q).0 o) (onward states g i rows (drop (k + 1) qs) later (passed_at items (i + 1)))))
        (or-none_right (answer (row_at rows q).1 (found g (passed_at items (i + 1)) (at next (i + 1)))))
        ∙ ap (λ o. option_or (among states g nowhere (i + 1) rows' items)
        (option_or o (onward states g i rows (drop (k + 1) qs) later (passed_at items (i + 1)))))
        (sym (thread-reads states g i rows q bounded (passed_at items (i + 1)) (not-here items q i) rises next rests none unwritten goes))
        ∙ parted;
  }

  pub Stepping-ends : (is_resting (state_at states q) ≡ false) ⊎ ((g.accepted (at q i) ≡ None) × (g.successors (at q i) ≡ []))
      → Stepping states g i later rows (drop (k + 1) qs) items rows' goal
  Stepping-ends ends = record { value = rw (thread-ends states g i rows q bounded (passed_at items (i + 1)) (not-here items q i) ends) at parted }

pub Stepping-over : {states : List State} {g : PriorityGraph} {i : ℕ} {later : Passed → Option Hit} {rows : List Row} {items : List ℕ} {rows' : List Row}
    {goal : Option Hit} (qs : List ℕ) (k : ℕ)
    → length qs ≤ k → Stepping states g i later rows (drop k qs) items rows' goal → Closed states g (i + 1) later items rows' goal
Stepping-over {states} {g} {i} {later} {rows} {items} {rows'} {goal} qs k le s =
    record { value = rw (among-over states g (passed_at items (i + 1)) i rows qs k le) at s.value }

pub Stepping-begun : {states : List State} {g : PriorityGraph} {i : ℕ} {later : Passed → Option Hit} {rows : List Row} {qs : List ℕ} {items : List ℕ}
    {rows' : List Row} {goal : Option Hit}
    → items ≡ [] → option_or (among states g nowhere i rows qs) (later nowhere) ≡ goal → Stepping states g i later rows qs items rows' goal
Stepping-begun e value = rw e (record { value = value })

-- What a state does at a byte, as the machine says it.

-- what the action tells of the state, in the graph
abbrev Acts : List State → PriorityGraph → ℕ → ℕ → ℕ → Onward ℕ → Type 0
Acts states g end q i (Stop pattern) = (is_resting (state_at states q) ≡ true) × (g.accepted (at q i) ≡ Some pattern)
Acts states g end q i (To next after) =
    (is_resting (state_at states q) ≡ true) × (next < length states) × (i < end) × (g.accepted (at q i) ≡ None) × (g.written (at q i) ≡ None)
    × (g.successors (at q i) ≡ at next (i + 1) ∷ [])
Acts states g end q i Back =
    (is_resting (state_at states q) ≡ false) ⊎ ((g.accepted (at q i) ≡ None) × (g.successors (at q i) ≡ []))

module _ (terminator : ℕ) (states : List State) (text : List ℕ) (end q i : ℕ) (names : All (NamesBelow (length states)) states) (state : q < length states)
    (place : i ≤ end) where
  -- a state that reads a byte by these transitions
  acts-read : (s : State) (ts : List Transition) (after : ℕ) → state_at states q ≡ s → is_resting s ≡ true → state_accepts s ≡ None → state_writes s ≡ None
      → state_step (forwards terminator text) end s i ≡ read_byte (byte_of text) end ts i
      → All (λ (t : Transition). t.next < length states) ts → Acts states (automaton terminator states text end) end q i
      (onto (target_of ts (byte_at text end i)) after)
  acts-read s ts after is rests none unwritten steps all =
      by_test (nat_lt i end)
      (λ e. rw e (at_byte (grind (arith, nat_tests)) (route ts (get_or text i 0)) refl))
      (λ e. rw e (inr (accepts, goes ∙ read_byte-dead (byte_of text) end ts i (λ lt. absurd (grind (arith, nat_tests))))))
    where
      accepts : (automaton terminator states text end).accepted (at q i) ≡ None
      accepts = accepted-is (forwards terminator text) states end q i state place s is ∙ none

      goes : (automaton terminator states text end).successors (at q i) ≡ read_byte (byte_of text) end ts i
      goes = successors-is (forwards terminator text) states end q i state place s is ∙ steps

      at_byte : i < end → (o : Option ℕ) → route ts (get_or text i 0) ≡ o → Acts states (automaton terminator states text end) end q i (onto o after)
      at_byte lt None e = inr (accepts, goes ∙ read_byte-dead (byte_of text) end ts i (λ _. e))
      at_byte lt (Some next) e = (
        ap is_resting is ∙ rests,
        route-below (length states) ts (get_or text i 0) next all e,
        lt,
        accepts,
        written-is (forwards terminator text) states end q i state place s is ∙ unwritten,
        goes ∙ read_byte-taken (byte_of text) end ts next i lt e,
      )

  acts : (s : State) (after : ℕ) → state_at states q ≡ s → Acts states (automaton terminator states text end) end q i (act_of s (byte_at text end i) after)
  acts (ByteRange low high next) after is =
      acts-read (ByteRange low high next) (record { start = low; end = high; next = next } ∷ []) after is refl refl refl refl
      (only (names-known states q (ByteRange low high next) names state is))
    where
      only : next < length states → All (λ (t : Transition). t.next < length states) (record { start = low; end = high; next = next } ∷ [])
      only lt = All-cons (λ (t : Transition). t.next < length states) (record { start = low; end = high; next = next }) [] lt
          (All-nil (λ (t : Transition). t.next < length states))
  acts (Sparse transitions) after is = acts-read (Sparse transitions) transitions after is refl refl refl refl
      (names-known states q (Sparse transitions) names state is)
  acts (Look look next) after is = inl (ap is_resting is)
  acts (Union alternates) after is = inl (ap is_resting is)
  acts (Capture next pattern slot) after is = inl (ap is_resting is)
  acts Fail after is = inl (ap is_resting is)
  acts (Accepts pattern) after is = (ap is_resting is, accepted-is (forwards terminator text) states end q i state place (Accepts pattern) is)

  -- what was done with the state and the byte that were read
  pub acts-known : (n : ℕ) (r : State) (b : Option ℕ) (after : ℕ) (a : Onward ℕ) → n ≡ q → r ≡ get_or states n r → b ≡ byte_at text end i → a ≡ act_of r b after
      → Acts states (automaton terminator states text end) end q i a
  acts-known n r b after a same read byte is =
      subst (Acts states (automaton terminator states text end) end q i) (sym (is ∙ ap (λ o. act_of r o after) byte))
      (acts r after (state-known states n q r r same state read refl))

-- What a state does where no byte may be read.

abbrev idle : Onward ℕ → Onward ℕ
idle (Stop pattern) = Stop pattern
idle (To next after) = Back
idle Back = Back

idle-read : (ts : List Transition) (b : Option ℕ) (after : ℕ) → Back ≡ idle (onto (target_of ts b) after)
idle-read ts None after = refl
idle-read ts (Some byte) after = each (route ts byte)
  where
    each : (o : Option ℕ) → Back ≡ idle (onto o after)
    each None = refl
    each (Some next) = refl

act-idle : (s : State) (b : Option ℕ) (after : ℕ) → act_of s None after ≡ idle (act_of s b after)
act-idle (ByteRange low high next) b after = idle-read (record { start = low; end = high; next = next } ∷ []) b after
act-idle (Sparse transitions) b after = idle-read transitions b after
act-idle (Look look next) b after = refl
act-idle (Union alternates) b after = refl
act-idle (Capture next pattern slot) b after = refl
act-idle Fail b after = refl
act-idle (Accepts pattern) b after = refl

module _ (terminator : ℕ) (states : List State) (text : List ℕ) (q i : ℕ) (names : All (NamesBelow (length states)) states) (state : q < length states)
    (rows : List Row) where
  abbrev here : PriorityGraph
  here = automaton terminator states text i

  -- what was done with the state and some byte, in the graph that ends at this place
  pub idle-known : (n : ℕ) (r : State) (b : Option ℕ) (after : ℕ) (a : Onward ℕ) → n ≡ q → r ≡ get_or states n r → a ≡ act_of r b after
      → Acts states here i q i (idle a)
  idle-known n r b after a same read is =
      let no_byte : byte_at text i i ≡ None = let e : nat_lt i i ≡ false = grind (arith, nat_tests) in rw e refl in
      acts-known terminator states text i q i names state (omega arith) n r None after (idle a) same read (sym no_byte) (ap idle is ∙ sym (act-idle r b after))

  pub idle-ends : (qs : List ℕ) (k : ℕ) (a : Onward ℕ) → k < length qs → q ≡ get_or qs k 0 → Back ≡ idle a → Acts states here i q i (idle a)
      → among states here nowhere i rows (drop k qs) ≡ among states here nowhere i rows (drop (k + 1) qs)
  idle-ends qs k a lt is ends acts =
      among-left states here nowhere i rows qs k q lt is
      ∙ ap (λ o. option_or o (among states here nowhere i rows (drop (k + 1) qs)))
      (thread-ends states here i rows q (automaton-bounded (forwards terminator text) states i) nowhere refl
      (subst (Acts states here i q i) (sym ends) acts))

  pub idle-accepts : (qs : List ℕ) (k pattern : ℕ) → k < length qs → q ≡ get_or qs k 0 → Acts states here i q i (Stop pattern)
      → among states here nowhere i rows (drop k qs) ≡ Some ((row_at rows q).0, record { pattern = pattern; end = i; slots = (row_at rows q).1 })
  idle-accepts qs k pattern lt is acts =
      among-left states here nowhere i rows qs k q lt is
      ∙ ap (λ o. option_or o (among states here nowhere i rows (drop (k + 1) qs)))
      (thread-accepts states here i rows q (automaton-bounded (forwards terminator text) states i) nowhere refl pattern acts.0 acts.1)
