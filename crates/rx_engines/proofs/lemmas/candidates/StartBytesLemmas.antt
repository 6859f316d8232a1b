-- The bytes that can begin a run.
use Rattle.std.proofs.Common.{◌≡◌, ℕ, zero, suc, ◌+◌, ◌-◌, ◌<◌, List, [], ◌∷◌, length, Option, Some, None, refl, sym, ◌∙◌, ap, subst, inl, inr, arith, true≢false, get_or, set, ⊎_elim}
use Rattle.std.proofs.lemmas.Bool.Decides.{nat_tests}
use Rattle.std.proofs.lemmas.Bool.{cases_eq}
use Rattle.std.proofs.lemmas.List.{get_or-set_same, get_or-set_other, get_or_default}
use Rattle.std.specs.Prelude.{Bool, true, false, Contains, All, IfSome, ⊤, map, nat_lt, nat_le, slice_index, slice_index_or, ◌&&◌, if◌then◌else◌}
use Rattle.rx_model.specs.Runs.{Configuration, Passed, nowhere, and_at, IsRun, trace, first_past, first_trace}
use Rattle.rx_model.specs.Machine.{is_inside, graph_of}
use Rattle.rx_model.proofs.lemmas.runs.RunLemmas.{by_test}
use Rattle.rx_model.proofs.lemmas.runs.FirstLemmas.{none-is-some, found-is_run, tells}
use Rattle.rx_model.proofs.lemmas.runs.RiseLemmas.{mapped-some}
use Rattle.rx_nfa.specs.Automaton.{at, automaton, automaton_over, machine, forwards, byte_at, state_at, state_step, state_accepts, read_byte, route, go_on}
use Rattle.rx_nfa.specs.declared.state.Transition.{Transition}
use Rattle.rx_nfa.specs.declared.state.State.{State}
use Rattle.rx_nfa.specs.declared.state.State.TheVariants.{ByteRange, Sparse, Look, Union, Capture, Fail, Match}
use Rattle.rx_nfa.proofs.lemmas.runs.AutomatonLemmas.{automaton-bounded, nothing_in, only-in}
use Rattle.rx_engines.specs.StartBytes.{has_byte, Marks, HasRange, BeginMarked}

-- Marks.

pub marks-same : (marked : List Bool) → Marks marked marked
marks-same marked = record { size = refl; kept = λ b h. h }

pub marks-more : (a b c : List Bool) → Marks a b → Marks b c → Marks a c
marks-more a b c x y = record { size = y.size ∙ x.size; kept = λ k h. y.kept k (x.kept k h) }

pub marks-set : (marked : List Bool) (k b : ℕ) → k < length marked → get_or marked b false ≡ true → get_or (set marked k true) b false ≡ true
marks-set marked k b lt h =
    ⊎_elim
    (λ (same : b ≡ k). subst (λ j. get_or (set marked k true) j false ≡ true) (sym same) (get_or-set_same marked k true false lt))
    (λ (differ : b ≡ k → ⊥). get_or-set_other marked k b true false differ ∙ h)
    (cases_eq b k)

pub marked-more : (states : List State) (old new : List Bool) → Marks old new → (q : ℕ) → BeginMarked states old q → BeginMarked states new q
marked-more states old new marks q begin terminator text end i none = begin terminator text end i (still (byte_at text end i) none)
  where
    still : (o : Option ℕ) → has_byte new o ≡ false → has_byte old o ≡ false
    still None h = refl
    still (Some b) h = by_test (slice_index_or old b false) (λ e. absurd (true≢false (sym (marks.kept b e) ∙ h))) (λ e. e)

-- A state begins its runs with marked bytes, where those bytes on which it goes on are marked, and the states to which it
-- goes on by none begin theirs so.

abbrev pub Settled : List State → List Bool → State → Type 0
Settled states marked (ByteRange low high next) = HasRange marked low high
Settled states marked (Sparse transitions) = All (λ (t : Transition). HasRange marked t.start t.end) transitions
Settled states marked (Look look next) = BeginMarked states marked next
Settled states marked (Union alternates) = All (BeginMarked states marked) alternates
Settled states marked (Capture next pattern slot) = BeginMarked states marked next
Settled states marked Fail = ⊤
Settled states marked (Match pattern) = ⊥

module _ (states : List State) (marked : List Bool) (terminator : ℕ) (text : List ℕ) (end i : ℕ) (not_here : has_byte marked (byte_at text end i) ≡ false) where
  -- a byte on which a transition goes on is none that stands here
  routed : (ts : List Transition) → All (λ (t : Transition). HasRange marked t.start t.end) ts → (b next : ℕ) → route ts b ≡ Some next
      → slice_index_or marked b false ≡ true
  routed [] all b next h = none-is-some h
  routed (t ∷ ts) all b next h =
      by_test (nat_le t.start b && nat_le b t.end)
      (λ e. all 0 t (omega arith) b (grind (arith, nat_tests)) (grind (arith, nat_tests)))
      (λ e. routed ts (λ k d lt. all (suc k) d (omega arith)) b next (rw e at h))

  reads : (ts : List Transition) → All (λ (t : Transition). HasRange marked t.start t.end) ts → (d : Configuration)
      → Contains (read_byte (forwards terminator text).byte end ts i) d → ⊥
  reads ts all d m =
      by_test (nat_lt i end)
      (λ e. goes e (route ts (slice_index text i)) refl (rw e at m))
      (λ e. nothing_in d (rw e at m))
    where
      goes : nat_lt i end ≡ true → (o : Option ℕ) → route ts (slice_index text i) ≡ o → Contains (go_on o (i + 1)) d → ⊥
      goes e None h m = nothing_in d m
      goes e (Some next) h m = true≢false (sym (routed ts all (slice_index text i) next h) ∙ (rw e at not_here))

  one : (low high next : ℕ) → HasRange marked low high
      → All (λ (t : Transition). HasRange marked t.start t.end) (record { start = low; end = high; next = next } ∷ [])
  one low high next settled zero d lt = settled
  one low high next settled (suc k) d lt = absurd (omega arith)

  holding : (b : Bool) (next : ℕ) (d : Configuration) → Contains (if b then at next i ∷ [] else []) d → at next i ≡ d
  holding true next d m = only-in (at next i) d m
  holding false next d m = absurd (nothing_in d m)

  among : (qs : List ℕ) → All (BeginMarked states marked) qs → (d : Configuration) → Contains (map (λ q. at q i) qs) d
      → (q : ℕ) × BeginMarked states marked q × (at q i ≡ d)
  among qs all d m = pick qs all m.0 m.1 m.2
    where
      pick : (qs : List ℕ) → All (BeginMarked states marked) qs → (k : ℕ) → k < length (map (λ q. at q i) qs) → slice_index_or (map (λ q. at q i) qs) k d ≡ d
          → (q : ℕ) × BeginMarked states marked q × (at q i ≡ d)
      pick [] all k lt e = absurd (omega arith)
      pick (q ∷ qs) all zero lt e = (q, all 0 q (omega arith), e)
      pick (q ∷ qs) all (suc k) lt e = pick qs (λ k q lt. all (suc k) q (omega arith)) k (omega arith) e

  -- each step stays here
  steps : (s : State) → Settled states marked s → (d : Configuration) → Contains (state_step (forwards terminator text) end s i) d
      → (q : ℕ) × BeginMarked states marked q × (at q i ≡ d)
  steps (ByteRange low high next) settled d m = absurd (reads (record { start = low; end = high; next = next } ∷ []) (one low high next settled) d m)
  steps (Sparse transitions) settled d m = absurd (reads transitions settled d m)
  steps (Look look next) settled d m = (next, settled, holding _ next d m)
  steps (Union alternates) settled d m = among alternates settled d m
  steps (Capture next pattern slot) settled d m = (next, settled, only-in (at next i) d m)
  steps Fail settled d m = absurd (nothing_in d m)
  steps (Match pattern) settled d m = absurd settled

  accepts-not : (s : State) → Settled states marked s → state_accepts s ≡ None
  accepts-not (ByteRange low high next) settled = refl
  accepts-not (Sparse transitions) settled = refl
  accepts-not (Look look next) settled = refl
  accepts-not (Union alternates) settled = refl
  accepts-not (Capture next pattern slot) settled = refl
  accepts-not Fail settled = refl
  accepts-not (Match pattern) settled = absurd settled

  no_run : (q : ℕ) (s : State) → state_at states q ≡ s → Settled states marked s → (p : Passed) (run : List Configuration)
      → IsRun (automaton terminator states text end) p (at q i) run → ⊥
  unfolding automaton_over graph_of
  no_run q s is settled p [] r =
      by_test (is_inside (machine (forwards terminator text) states end) end (at q i))
      (λ e. true≢false (sym (rw (e, is, accepts-not s settled) at r.1)))
      (λ e. true≢false (sym (rw e at r.1)))
  no_run q s is settled p (d ∷ run) r =
      by_test (is_inside (machine (forwards terminator text) states end) end (at q i))
      (λ e.
      let next = steps s settled d (rw (e, is) at r.1) in
      next.1 terminator text end i not_here (and_at (at q i) p) run
      (subst (λ d. IsRun (automaton terminator states text end) (and_at (at q i) p) d run) (sym next.2) r.2))
      (λ e. nothing_in d (rw e at r.1))

pub settled-begins : (states : List State) (marked : List Bool) (q : ℕ) (s : State) → state_at states q ≡ s → Settled states marked s
    → BeginMarked states marked q
settled-begins states marked q s is settled terminator text end i none p run r = no_run states marked terminator text end i none q s is settled p run r

-- so no run is found where none of the bytes stands
pub marked-none : (states : List State) (marked : List Bool) (q : ℕ) → BeginMarked states marked q → (terminator : ℕ) (text : List ℕ) (end i : ℕ)
    → has_byte marked (byte_at text end i) ≡ false
    → first_trace (automaton terminator states text end) (at q i) ≡ None
marked-none states marked q begin terminator text end i none =
    let g = automaton terminator states text end in
    elim (tells (first_trace g (at q i))) [
      | inl none ↦ none
      | inr some ↦
          let x = mapped-some (trace g (at q i)) (first_past g nowhere (at q i)) some.0 some.1 in
          absurd
          (begin terminator text end i none nowhere x.0 (found-is_run g (automaton-bounded (forwards terminator text) states end) x.0 nowhere (at q i) x.1))
    ]

-- the state that was read
pub state-read : (states : List State) (q k : ℕ) (read s : State) → q < length states → k ≡ q → read ≡ get_or states k read → read ≡ s → state_at states q ≡ s
state-read states q k read s lt same is told = sym (is ∙ ap (λ k. get_or states k read) same ∙ get_or_default states q read Fail lt) ∙ told

-- a state that goes on to another one by no byte
pub marked-on : (states : List State) (marked : List Bool) (q next left : ℕ) → (BeginMarked states marked next → BeginMarked states marked q) → (o : Option ℕ)
    → IfSome o (λ rest. (rest < left - 1) × BeginMarked states marked next) → IfSome o (λ rest. (rest < left) × BeginMarked states marked q)
marked-on states marked q next left on None told = tt
marked-on states marked q next left on (Some rest) told = ((let lt = told.0 in omega arith), on told.1)

-- one state more of those that were looked at
pub marked-next : (states : List State) (old new : List Bool) (qs : List ℕ) (k here : ℕ) → Marks old new → here ≡ get_or qs k here → k < length qs
    → ((j q : ℕ) → j < k → BeginMarked states old (get_or qs j q)) → BeginMarked states new here → (j q : ℕ) → j < k + 1
    → BeginMarked states new (get_or qs j q)
marked-next states old new qs k here marks is inside before begin j q lt =
    ⊎_elim
    (λ (same : j ≡ k). subst (BeginMarked states new) (is ∙ get_or_default qs k here q inside ∙ ap (λ j. get_or qs j q) (sym same)) begin)
    (λ (differ : j ≡ k → ⊥). marked-more states old new marks (get_or qs j q) (before j q (omega arith)))
    (cases_eq j k)
