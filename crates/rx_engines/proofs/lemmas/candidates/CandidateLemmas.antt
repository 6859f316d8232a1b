-- Where a place is no candidate, no run starts there.
use Rattle.std.proofs.Common.{◌≡◌, ℕ, ◌≤◌, ◌<◌, List, [], ◌∷◌, length, take, Option, Some, None, refl, sym, ◌∙◌, ap, subst, inl, inr, arith, true≢false}
use Rattle.std.proofs.lemmas.Bool.Decides.{nat_tests}
use Rattle.std.specs.Prelude.{Bool, true, false, not, is_some, IfSome, Contains, nat_lt, if◌then◌else◌}
use Rattle.rx_model.specs.Runs.{Configuration, PriorityGraph, Passed, nowhere, and_at, IsRun, Trace, trace, first_past, first_trace}
use Rattle.rx_model.specs.Machine.{is_inside, graph_of}
use Rattle.rx_model.specs.Search.{Anchor, free, anchored, anchored_to, is_anchored}
use Rattle.rx_model.proofs.lemmas.runs.RunLemmas.{by_test}
use Rattle.rx_model.proofs.lemmas.runs.FirstLemmas.{some-is, found-is_run, run-is_found, tells}
use Rattle.rx_model.proofs.lemmas.runs.RiseLemmas.{mapped-some}
use Rattle.rx_search.specs.Input.{InputValue}
use Rattle.rx_nfa.specs.Automaton.{at, automaton, automaton_over, machine, forwards, state_at, state_step, read_byte}
use Rattle.rx_nfa.specs.Nfa.{Nfa}
use Rattle.rx_nfa.specs.NextMatch.{start_of, first_from}
use Rattle.rx_nfa.specs.declared.state.Transition.{Transition}
use Rattle.rx_nfa.specs.declared.state.State.{State}
use Rattle.rx_nfa.specs.declared.state.State.TheVariants.{ByteRange, Sparse, Look, Union, Capture, Fail, Match}
use Rattle.rx_nfa.proofs.lemmas.runs.AutomatonLemmas.{automaton-bounded, nothing_in}
use Rattle.rx_engines.specs.StartBytes.{has_byte}
use Rattle.rx_engines.specs.Candidates.{AreOf, AreStartBytes, begins_by, lies_by, is_begun, is_candidate}
use Rattle.rx_engines.specs.declared.candidates.start_bytes.StartBytes.{StartBytes}
use Rattle.rx_engines.specs.Needles.{BeginsEachRun}
use Rattle.rx_prefilter.specs.Needles.{span_at}
use Rattle.rx_engines.specs.Engine.{IsSearchOf}
use Rattle.rx_engines.specs.Search.{graph_until, is_offered, may_begin, OffersAll, PassesNoRun}
use Rattle.rx_engines.specs.declared.candidates.Candidates.{Candidates}
use Rattle.rx_engines.specs.declared.search.Search.{Search}
use Rattle.rx_engines.proofs.lemmas.threads.StageLemmas.{byte-same}
use Rattle.rx_engines.proofs.lemmas.candidates.NeedleLemmas.{one-lies}

-- A run within an end is one within a later end.

module _ (terminator : ℕ) (states : List State) (text : List ℕ) (end later : ℕ) (le : end ≤ later) where
  abbrev near : PriorityGraph
  near = automaton terminator states text end

  abbrev far : PriorityGraph
  far = automaton terminator states text later

  inside-later : (c : Configuration) → is_inside (machine (forwards terminator text) states end) end c ≡ true
      → is_inside (machine (forwards terminator text) states later) later c ≡ true
  inside-later c e = grind (arith, nat_tests)

  read-later : (ts : List Transition) (i : ℕ) (d : Configuration) → Contains (read_byte (forwards terminator text).byte end ts i) d
      → Contains (read_byte (forwards terminator text).byte later ts i) d
  read-later ts i d m =
      by_test (nat_lt i end)
      (λ e. let e' : nat_lt i later ≡ true = grind (arith, nat_tests) in rw e' (rw e at m))
      (λ e. absurd (nothing_in d (rw e at m)))

  step-later : (s : State) (i : ℕ) (d : Configuration) → Contains (state_step (forwards terminator text) end s i) d
      → Contains (state_step (forwards terminator text) later s i) d
  step-later (ByteRange low high next) i d m = read-later (record { start = low; end = high; next = next } ∷ []) i d m
  step-later (Sparse transitions) i d m = read-later transitions i d m
  step-later (Look look next) i d m = m
  step-later (Union alternates) i d m = m
  step-later (Capture next pattern slot) i d m = m
  step-later Fail i d m = m
  step-later (Match pattern) i d m = m

  successor-later : (c d : Configuration) → Contains (near.successors c) d → Contains (far.successors c) d
  unfolding automaton_over graph_of
  successor-later c d m =
      by_test (is_inside (machine (forwards terminator text) states end) end c)
      (λ e. rw (inside-later c e) (step-later (state_at states c.state) c.place d (rw e at m)))
      (λ e. absurd (nothing_in d (rw e at m)))

  accepted-later : (c : Configuration) → is_some (near.accepted c) ≡ true → is_some (far.accepted c) ≡ true
  unfolding automaton_over graph_of
  accepted-later c accepts =
      by_test (is_inside (machine (forwards terminator text) states end) end c)
      (λ e. rw (inside-later c e) (rw e at accepts))
      (λ e. absurd (true≢false (sym (rw e at accepts))))

  run-later : (passed : Passed) (c : Configuration) (run : List Configuration) → IsRun near passed c run → IsRun far passed c run
  run-later passed c [] r = (r.0, accepted-later c r.1)
  run-later passed c (d ∷ run) r = (r.0, successor-later c d r.1, run-later (and_at c passed) d run r.2)

  -- so a start that has a run by the end has one by the later end
  pub starts-later : (c : Configuration) (t : Trace) → first_trace near c ≡ Some t → is_some (first_trace far c) ≡ true
  starts-later c t h =
      let x = mapped-some (trace near c) (first_past near nowhere c) t h in
      let run = run-later nowhere c x.0 (found-is_run near (automaton-bounded (forwards terminator text) states end) x.0 nowhere c x.1) in
      let y = run-is_found far (automaton-bounded (forwards terminator text) states later) x.0 nowhere c run in
      rw y.1 refl

module _ (nfa : Nfa) (v : InputValue) (spanned : v.end ≤ length v.haystack) (unanchored : v.anchor ≡ free) (end i : ℕ) (le : end ≤ v.end) (low : v.start ≤ i)
    (high : i ≤ v.end) where
  abbrev found_here : Option Trace
  found_here = first_trace (automaton nfa.terminator nfa.states v.haystack end) (at nfa.start_anchored i)

  by-needles : (needles : List (List ℕ)) → BeginsEachRun (Some needles) nfa v → is_some (span_at needles (take v.end v.haystack) i) ≡ false → found_here ≡ None
  by-needles needles begins not_here =
      elim (tells found_here) [
        | inl none ↦ none
        | inr some ↦
            let later = starts-later nfa.terminator nfa.states v.haystack end v.end le (at nfa.start_anchored i) some.0 some.1 in
            let runs : is_some (first_from nfa.terminator nfa.states v.haystack v.end (start_of nfa v.anchor) i) ≡ true = rw unanchored later in
            absurd (true≢false (sym (one-lies v.haystack v.end i spanned needles (begins (ap is_anchored unanchored) i low high runs)) ∙ not_here))
      ]

  by-bytes : (o : Option StartBytes) → IfSome o (AreStartBytes nfa.states nfa.start_anchored) → begins_by o v.haystack v.end i ≡ false → found_here ≡ None
  by-bytes None are not_here = absurd (true≢false not_here)
  by-bytes (Some set) are not_here =
      are nfa.terminator v.haystack end i
      (by_test (nat_lt i end)
      (λ e.
      let lt : i < end = grind (arith, nat_tests) in
      ap (has_byte set.has) (byte-same v.haystack end v.end i lt (omega arith)) ∙ not_here)
      (λ e. rw e refl))

  by-both : (needles : Option (List (List ℕ))) (bytes : Option StartBytes) → IfSome bytes (AreStartBytes nfa.states nfa.start_anchored)
      → BeginsEachRun needles nfa v
      → lies_by needles bytes v.haystack v.end i ≡ false → found_here ≡ None
  by-both None bytes are begins not_here = by-bytes bytes are not_here
  by-both (Some needles) bytes are begins not_here = by-needles needles begins not_here

  pub candidate-none : (known : Candidates) → AreOf nfa known → BeginsEachRun known.needles nfa v → is_candidate known v.haystack v.end i ≡ false
      → found_here ≡ None
  candidate-none known are begins not_here = by-both known.needles known.bytes are begins not_here

  pub begun-none : (known : Candidates) → AreOf nfa known → is_begun known v.haystack v.end i ≡ false → found_here ≡ None
  begun-none known are not_here = by-bytes known.bytes are not_here

-- No run starts at a place of the search of an input that is not offered, where all candidates are offered.
module _ (nfa : Nfa) (v : InputValue) (s : Search) (of : IsSearchOf nfa v s) (spanned : v.end ≤ length v.haystack) (known : Candidates)
    (is_known : s.candidates.now ≡ known) (are : AreOf nfa known) where
  -- the search asks
  asked : (end i : ℕ) (test : Bool) → (if s.free then test else true) ≡ false
      → (v.anchor ≡ free → test ≡ false → first_trace (graph_until s end) (at s.start i) ≡ None)
      → first_trace (graph_until s end) (at s.start i) ≡ None
  asked end i test not_here none = by_anchor v.anchor refl
    where
      unasked : is_anchored v.anchor ≡ true → first_trace (graph_until s end) (at s.start i) ≡ None
      unasked a =
          let bound : s.free ≡ false = of.free ∙ ap not a in
          absurd (true≢false (rw bound at not_here))

      by_anchor : (a : Anchor) → v.anchor ≡ a → first_trace (graph_until s end) (at s.start i) ≡ None
      by_anchor free e =
          let loose : s.free ≡ true = of.free ∙ ap (λ a. not (is_anchored a)) e in
          none e (rw loose at not_here)
      by_anchor anchored e = unasked (ap is_anchored e)
      by_anchor (anchored_to p) e = unasked (ap is_anchored e)

  -- the same run, of the NFA
  run-of : (end i : ℕ) → v.anchor ≡ free → first_trace (automaton nfa.terminator nfa.states v.haystack end) (at nfa.start_anchored i) ≡ None
      → first_trace (graph_until s end) (at s.start i) ≡ None
  run-of end i unanchored none =
      let start : nfa.start_anchored ≡ s.start = some-is (ap (start_of nfa) (sym unanchored) ∙ of.start) in
      (λ j. first_trace (automaton (of.matcher j) (of.states j) (of.text j) end) (at (sym start j) i)) ∙ none

  last-free : v.anchor ≡ free → s.last ≡ v.end
  last-free unanchored = of.last ∙ ap (λ a. if is_anchored a then v.start else v.end) unanchored

  pub passes-no_run : {pre : Option (List (List ℕ))} → known.needles ≡ pre → BeginsEachRun pre nfa v → (offered : ℕ → Bool) → OffersAll s offered
      → PassesNoRun offered s
  passes-no_run {pre} pre_is begins offered offers end i le low high not_offered =
      let first = of.first in
      let until = of.end in
      by_test (is_offered s i)
      (λ lies.
      by_test (may_begin s i)
      (λ begun. absurd (true≢false (sym (offers i lies begun) ∙ not_offered)))
      (λ not_begun.
      asked end i (is_begun s.candidates.now s.text.now s.end i) not_begun
      (λ unanchored not_here.
      let last = last-free unanchored in
      run-of end i unanchored
      (begun-none nfa v spanned unanchored end i (omega arith) (omega arith) (omega arith) known are
      ((λ j. is_begun (sym is_known j) (sym of.text j) (sym of.end j) i) ∙ not_here)))))
      (λ not_lying.
      asked end i (is_candidate s.candidates.now s.text.now s.end i) not_lying
      (λ unanchored not_here.
      let last = last-free unanchored in
      run-of end i unanchored
      (candidate-none nfa v spanned unanchored end i (omega arith) (omega arith) (omega arith) known are
      (subst (λ p. BeginsEachRun p nfa v) (sym pre_is) begins)
      ((λ j. is_candidate (sym is_known j) (sym of.text j) (sym of.end j) i) ∙ not_here))))
