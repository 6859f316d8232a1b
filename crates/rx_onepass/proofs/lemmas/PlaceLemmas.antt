-- Where the run lies that a search tells: it ends in the span, so do the places that it writes, and its pattern is there.
use Rattle.std.proofs.Common.{◌≡◌, ◌≢◌, ◌⊎◌, ℕ, zero, suc, ◌+◌, ◌-◌, ◌*◌, ◌<◌, ◌≤◌, ◌==◌, List, [], ◌∷◌, length, refl, sym, ◌∙◌, ap, inl, inr, arith, true≢false}
use Rattle.std.proofs.lemmas.Bool.Decides.{nat_tests, Decides-eqb}
use Rattle.std.proofs.lemmas.List.{get_or_past}
use Rattle.std.proofs.lemmas.List.Elements.{All-get_or}
use Rattle.std.specs.Prelude.{true, false, nat_lt, Option, Some, None, is_some, unwrap_or}
use Rattle.rx_model.specs.Runs.{Configuration, PriorityGraph, Sieve, Passed, everywhere, ending_at, sieved, sifted, nowhere, and_at, IsRun, IsBounded, NeverFalls, Trace, trace, with_write, last_write, first_past, first_trace}
use Rattle.rx_model.proofs.lemmas.graphs.SieveLemmas.{sieved-bounded, sieved-rises}
use Rattle.rx_model.proofs.lemmas.runs.RunLemmas.{by_test}
use Rattle.rx_model.proofs.lemmas.runs.FirstLemmas.{found-is_run, none-is-some, some-is, tells}
use Rattle.rx_model.proofs.lemmas.runs.RiseLemmas.{trace-end, run-rises, mapped-some, found-end}
use Rattle.rx_search.specs.Input.{InputValue}
use Rattle.rx_search.specs.declared.anchored.MatchKind.{MatchKind}
use Rattle.rx_search.specs.declared.anchored.MatchKind.TheVariants.{All, LeftmostFirst}
use Rattle.rx_nfa.specs.Automaton.{at, forwards, automaton, state_at, state_accepts, state_writes, IsWithin}
use Rattle.rx_nfa.specs.Nfa.{Nfa, IsInRange}
use Rattle.rx_nfa.specs.NextMatch.{start_of}
use Rattle.rx_nfa.specs.declared.state.State.{State}
use Rattle.rx_nfa.specs.declared.state.State.TheVariants.{ByteRange, Sparse, Look, Union, Capture, Fail, Match as Accepts}
use Rattle.rx_nfa.proofs.lemmas.runs.AutomatonLemmas.{automaton-bounded, automaton-rises, automaton-accepts-within, automaton-accepted, automaton-accepted-beyond, automaton-written}
use Rattle.rx_onepass_table.specs.Along.{farthest, first_from}
use Rattle.rx_onepass_build.specs.Config.{kind_of}
use Rattle.rx_onepass.specs.Dfa.{Dfa}
use Rattle.rx_onepass.specs.Search.{taken_as, run_from, run_of, may_start, run_in, is_explicit, slot_of}
use Rattle.rx_onepass.proofs.lemmas.WalkLemmas.{or-cases}

-- The run is the first one, for some sieve of acceptance.

pub farthest-some : (f : ℕ → Option Trace) (n i : ℕ) (t : Trace) → farthest f n i ≡ Some t → (e : ℕ) × (f e ≡ Some t)
unfolding farthest
farthest-some f zero i t h = none-is-some h
farthest-some f (suc n) i t h =
    elim (or-cases (farthest f n (i + 1)) (f i) t h) [ inl later ↦ farthest-some f n (i + 1) t later | inr here ↦ (i, here) ]

pub record IsRunOf (nfa : Nfa) (text : List ℕ) (end : ℕ) (start : Option ℕ) (place : ℕ) (t : Trace) : Type 0 where
  pub ok : Sieve
  pub q : ℕ
  pub starts : start ≡ Some q
  pub is_first : first_from nfa ok text end q place ≡ Some t

kind-run : (kind : MatchKind) (nfa : Nfa) (text : List ℕ) (end q place : ℕ) (t : Trace) → run_from kind nfa text end q place ≡ Some t
    → IsRunOf nfa text end (Some q) place t
kind-run LeftmostFirst nfa text end q place t h = record { ok = everywhere; q = q; starts = refl; is_first = h }
kind-run All nfa text end q place t h =
    let x = farthest-some (λ e. first_from nfa (ending_at e) text end q place) (end + 1 - place) place t h in
    record { ok = ending_at x.0; q = q; starts = refl; is_first = x.1 }

start-run : (kind : MatchKind) (nfa : Nfa) (text : List ℕ) (end : ℕ) (o : Option ℕ) (place : ℕ) (t : Trace) → run_of kind nfa text end o place ≡ Some t
    → IsRunOf nfa text end o place t
start-run kind nfa text end None place t h = none-is-some h
start-run kind nfa text end (Some q) place t h = kind-run kind nfa text end q place t h

-- a match may start there, and the run is a first run
pub told-run : (d : Dfa) (v : InputValue) (t : Trace) → run_in d v ≡ Some t
    → (may_start d v ≡ true) × IsRunOf d.nfa v.haystack v.end (start_of d.nfa (taken_as v.anchor)) v.start t
told-run d v t is =
    by_test (may_start d v)
    (λ yes. (yes, start-run (kind_of d.config) d.nfa v.haystack v.end (start_of d.nfa (taken_as v.anchor)) v.start t (rw yes at is)))
    (λ no. none-is-some (rw no at is))

-- Of any run.

-- a write before the others
written-place : (o : Option ℕ) (i : ℕ) (t : Trace) (k place : ℕ) → last_write (with_write o i t).writes k ≡ Some place
    → (last_write t.writes k ≡ Some place) ⊎ (place ≡ i)
written-place None i t k place h = inl h
written-place (Some n) i t k place h =
    elim (tells (last_write t.writes k)) [
      | inl none ↦ inr (by_test (n == k) (λ e. sym (some-is (rw (none, e) at h))) (λ e. none-is-some (rw (none, e) at h)))
      | inr some ↦ inl (some.1 ∙ (rw some.1 at h))
    ]

run-places : (g : PriorityGraph) → NeverFalls g → (p : Passed) (c : Configuration) (run : List Configuration) → IsRun g p c run
    → (k place : ℕ) → last_write (trace g c run).writes k ≡ Some place → (c.place ≤ place) × (place ≤ (trace g c run).end)
run-places g rises p c [] r k place h = none-is-some h
run-places g rises p c (d ∷ run) r k place h =
    let up = rises c d r.1 in
    let above = run-rises g rises (and_at c p) d run r.2 in
    let ends = trace-end g d run in
    let same : (trace g c (d ∷ run)).end ≡ (trace g d run).end = trace-end g c (d ∷ run) ∙ sym ends in
    elim (written-place (g.written c) c.place (trace g d run) k place h) [
      | inl later ↦ let x = run-places g rises (and_at c p) d run r.2 k place later in let low = x.0 in let high = x.1 in (omega arith, omega arith)
      | inr here ↦ (omega arith, omega arith)
    ]

written-pattern : (o : Option ℕ) (i : ℕ) (t : Trace) → (with_write o i t).pattern ≡ t.pattern
written-pattern None i t = refl
written-pattern (Some n) i t = refl

accepts-within : (patterns slots p : ℕ) (s : State) → IsWithin patterns slots s → state_accepts s ≡ Some p → p < patterns
accepts-within patterns slots p (ByteRange low high next) within accepts = none-is-some accepts
accepts-within patterns slots p (Sparse transitions) within accepts = none-is-some accepts
accepts-within patterns slots p (Look look next) within accepts = none-is-some accepts
accepts-within patterns slots p (Union alternates) within accepts = none-is-some accepts
accepts-within patterns slots p (Capture next pattern number) within accepts = none-is-some accepts
accepts-within patterns slots p Fail within accepts = none-is-some accepts
accepts-within patterns slots p (Accepts pattern) within accepts =
    let lt : pattern < patterns = within in
    let same : pattern ≡ p = some-is accepts in
    omega arith

writes-within : (patterns slots slot : ℕ) (s : State) → IsWithin patterns slots s → state_writes s ≡ Some slot → slot < slots
writes-within patterns slots slot (ByteRange low high next) within writes = none-is-some writes
writes-within patterns slots slot (Sparse transitions) within writes = none-is-some writes
writes-within patterns slots slot (Look look next) within writes = none-is-some writes
writes-within patterns slots slot (Union alternates) within writes = none-is-some writes
writes-within patterns slots slot (Capture next pattern number) within writes =
    let lt : number < slots = within.1 in
    let same : number ≡ slot = some-is writes in
    omega arith
writes-within patterns slots slot Fail within writes = none-is-some writes
writes-within patterns slots slot (Accepts pattern) within writes = none-is-some writes

pub sifted-some : (ok : Sieve) (place : ℕ) (o : Option ℕ) (p : ℕ) → sifted ok place o ≡ Some p → o ≡ Some p
sifted-some ok place None p h = none-is-some h
sifted-some ok place (Some q) p h = by_test (ok q place) (λ e. rw e at h) (λ e. none-is-some (rw e at h))

module _ (nfa : Nfa) (range : IsInRange nfa) (text : List ℕ) (end : ℕ) (ok : Sieve) where
  abbrev whole : PriorityGraph
  whole = automaton nfa.terminator nfa.states text end

  abbrev graph : PriorityGraph
  graph = sieved ok whole

  bounded : IsBounded graph
  bounded = sieved-bounded ok whole (automaton-bounded (forwards nfa.terminator text) nfa.states end)

  rises : NeverFalls graph
  rises = sieved-rises ok whole (automaton-rises (forwards nfa.terminator text) nfa.states end)

  -- what accepts in the sieved graph accepts in the whole one
  whole-accepts : (c : Configuration) → is_some (graph.accepted c) ≡ true → (p : ℕ) × (graph.accepted c ≡ Some p) × (whole.accepted c ≡ Some p)
  whole-accepts c accepts =
      elim (tells (graph.accepted c)) [
        | inl none ↦ absurd (true≢false (sym accepts ∙ ap is_some none))
        | inr some ↦ (some.0, some.1, sifted-some ok c.place (whole.accepted c) some.0 some.1)
      ]

  place-within : (c : Configuration) → is_some (graph.accepted c) ≡ true → c.place ≤ end
  place-within c accepts =
      let x = whole-accepts c accepts in
      automaton-accepts-within (forwards nfa.terminator text) nfa.states end c (ap is_some x.2)

  accepted-pattern : (c : Configuration) → is_some (graph.accepted c) ≡ true → unwrap_or (graph.accepted c) 0 < length nfa.starts
  accepted-pattern c accepts =
      let x = whole-accepts c accepts in
      let le : c.place ≤ end = place-within c accepts in
      let is : unwrap_or (graph.accepted c) 0 ≡ x.0 = ap (λ (o : Option ℕ). unwrap_or o 0) x.1 in
      by_test (nat_lt c.state (length nfa.states))
      (λ e.
      let lt : c.state < length nfa.states = grind (arith, nat_tests) in
      let at_state : state_accepts (state_at nfa.states c.state) ≡ Some x.0 =
      sym (automaton-accepted (forwards nfa.terminator text) nfa.states end c.state c.place lt le) ∙ x.2 in
      let less = accepts-within (length nfa.starts) nfa.slots x.0 (state_at nfa.states c.state)
      (All-get_or (IsWithin (length nfa.starts) nfa.slots) nfa.states c.state _ lt range.within) at_state in
      omega arith)
      (λ e.
      none-is-some (sym (automaton-accepted-beyond (forwards nfa.terminator text) nfa.states end c.state c.place (grind (arith, nat_tests))) ∙ x.2))

  run-pattern : (passed : Passed) (c : Configuration) (run : List Configuration) → IsRun graph passed c run → (trace graph c run).pattern < length nfa.starts
  run-pattern passed c [] r = accepted-pattern c r.1
  run-pattern passed c (d ∷ run) r =
      let lt = run-pattern (and_at c passed) d run r.2 in
      let same = written-pattern (graph.written c) c.place (trace graph d run) in
      omega arith

  written-within : (slot : ℕ) → nfa.slots ≤ slot → (c : Configuration) (k : ℕ) → whole.written c ≡ Some k → k ≢ slot
  written-within slot past c k h same =
      let writes : state_writes (state_at nfa.states c.state) ≡ Some k =
      sym (automaton-written (forwards nfa.terminator text) nfa.states end c.state c.place) ∙ h in
      by_test (nat_lt c.state (length nfa.states))
      (λ e.
      let lt : c.state < length nfa.states = grind (arith, nat_tests) in
      let less = writes-within (length nfa.starts) nfa.slots k (state_at nfa.states c.state)
      (All-get_or (IsWithin (length nfa.starts) nfa.slots) nfa.states c.state _ lt range.within) writes in
      omega arith)
      (λ e.
      let fails : state_at nfa.states c.state ≡ Fail = get_or_past nfa.states c.state Fail (grind (arith, nat_tests)) in
      none-is-some (sym (ap state_writes fails) ∙ writes))

  write-kept : (slot : ℕ) (o : Option ℕ) (place : ℕ) (t : Trace) → ((k : ℕ) → o ≡ Some k → k ≢ slot) → last_write t.writes slot ≡ None
      → last_write (with_write o place t).writes slot ≡ None
  write-kept slot None place t other none = none
  write-kept slot (Some k) place t other none =
      let differ : (k == slot) ≡ false = by_test (k == slot) (λ e. absurd (other k refl ((Decides-eqb k slot).0 e))) (λ e. e) in
      rw (none, differ) refl

  run-writes : (slot : ℕ) → nfa.slots ≤ slot → (c : Configuration) (run : List Configuration) → last_write (trace graph c run).writes slot ≡ None
  run-writes slot past c [] = refl
  run-writes slot past c (d ∷ run) =
      write-kept slot (whole.written c) c.place (trace graph d run) (written-within slot past c) (run-writes slot past d run)

  module _ (c : Configuration) (t : Trace) (h : first_trace graph c ≡ Some t) where
    trace-pattern : t.pattern < length nfa.starts
    trace-pattern =
        let x = mapped-some (trace graph c) (first_past graph nowhere c) t h in
        let lt = run-pattern nowhere c x.0 (found-is_run graph bounded x.0 nowhere c x.1) in
        let same = ap (λ (u : Trace). u.pattern) x.2 in
        omega arith

    -- a slot that is not there stays empty
    pub trace-past : (slot : ℕ) → nfa.slots ≤ slot → last_write t.writes slot ≡ None
    trace-past slot past =
        let x = mapped-some (trace graph c) (first_past graph nowhere c) t h in
        ap (λ (u : Trace). last_write u.writes slot) (sym x.2) ∙ run-writes slot past c x.0

    trace-within : (c.place ≤ t.end) × (t.end ≤ end)
    trace-within = found-end graph bounded rises end place-within nowhere c t h

    trace-places : (k place : ℕ) → last_write t.writes k ≡ Some place → (c.place ≤ place) × (place ≤ t.end)
    trace-places k place writes =
        let x = mapped-some (trace graph c) (first_past graph nowhere c) t h in
        let y = run-places graph rises nowhere c x.0 (found-is_run graph bounded x.0 nowhere c x.1) k place (ap (λ (u : Trace). last_write u.writes k) x.2 ∙ writes) in
        let ends = ap (λ (u : Trace). u.end) x.2 in
        let high = y.1 in
        (y.0, omega arith)

-- Of the run that a search tells.

module _ (d : Dfa) (v : InputValue) (range : IsInRange d.nfa) (t : Trace) (is : run_in d v ≡ Some t) where
  run : IsRunOf d.nfa v.haystack v.end (start_of d.nfa (taken_as v.anchor)) v.start t
  run = (told-run d v t is).1

  pub told-within : (v.start ≤ t.end) × (t.end ≤ v.end)
  told-within = trace-within d.nfa range v.haystack v.end run.ok (at run.q v.start) t run.is_first

  pub told-pattern : t.pattern < length d.nfa.starts
  told-pattern = trace-pattern d.nfa range v.haystack v.end run.ok (at run.q v.start) t run.is_first

  pub told-places : (slot place : ℕ) → slot_of d.nfa v.start t slot ≡ Some place → (v.start ≤ place) × (place ≤ v.end)
  told-places slot place h =
      let ends = told-within in
      let low = ends.0 in
      let high = ends.1 in
      by_test (slot == 2 * t.pattern)
      (λ opens. let same = some-is (rw opens at h) in (omega arith, omega arith))
      (λ apart.
      by_test (slot == 2 * t.pattern + 1)
      (λ closes. let same = some-is (rw (apart, closes) at h) in (omega arith, omega arith))
      (λ apart_too.
      by_test (is_explicit d.nfa slot)
      (λ e.
      let x = trace-places d.nfa range v.haystack v.end run.ok (at run.q v.start) t run.is_first slot place (rw (apart, apart_too, e) at h) in
      let from = x.0 in
      let to = x.1 in
      (omega arith, omega arith))
      (λ e. none-is-some (rw (apart, apart_too, e) at h))))
