-- Narrowing: a first run that ends by an earlier end is the first run within that end, wherever acceptance is permitted.
use Rattle.std.proofs.Common.{◌≡◌, ℕ, suc, ◌+◌, ◌≤◌, List, [], ◌∷◌, length, refl, sym, ◌∙◌, ap, subst, inl, inr, arith}
use Rattle.std.specs.Prelude.{true, false, ◌⊎◌, if◌then◌else◌, nat_le, Contains, Option, Some, None, option_map, is_some, unwrap_or}
use Rattle.std.specs.Option.{option_or}
use Rattle.std.proofs.lemmas.Bool.Decides.{nat_tests}
use Rattle.rx_model.specs.Text.{stands_at, member_len}
use Rattle.rx_model.specs.Expression.{Expression}
use Rattle.rx_model.specs.Runs.{Configuration, PriorityGraph, Passed, Sieve, everywhere, sifted, sieved, nowhere, and_at, IsRun, IsBefore, IsLess, IsBounded, Trace, trace, with_write, last_of, first_past}
use Rattle.rx_model.specs.Machine.{is_inside, graph_of}
use Rattle.rx_model.specs.Graph.{State, text, set, assertion, slot, choice, accept, at, go_by, state_step, state_at, machine_of, runs_of, build_pattern}
use Rattle.rx_model.specs.Search.{Patterns, slot_of, first, first_where, first_of_patterns_where, Anchor, anchored_to, Match, next_match}
use Rattle.rx_model.proofs.lemmas.runs.RunLemmas.{by_test, map-none}
use Rattle.rx_model.proofs.lemmas.runs.FirstLemmas.{none-is-some, some-is, found-is_run, first-is_first, is_first-found, none-is_none}
use Rattle.rx_model.proofs.lemmas.runs.RiseLemmas.{trace-end, run-rises, mapped-some}
use Rattle.rx_model.proofs.lemmas.graphs.GraphLemmas.{runs_of-bounded, runs_of-rises, runs_of-within}
use Rattle.rx_model.proofs.lemmas.graphs.SieveLemmas.{sieved-bounded, sieved-rises, first-everywhere}
use Rattle.rx_model.proofs.lemmas.matches.MatchLemmas.{next-is, is-next, next-within}
use Rattle.rx_model.proofs.lemmas.graphs.SievedLemmas.{by_trace, sifted-some}
use Rattle.rx_model.proofs.lemmas.matches.WithinLemmas.{successor-later, written-later}
use Rattle.rx_model.proofs.lemmas.runs.MemberLemmas.{only-among, none-among}

module _ (terminator : ℕ) (hay : List ℕ) (states : List State) (end later : ℕ) (le : end ≤ later) where
  abbrev near : PriorityGraph
  near = runs_of terminator hay end states

  abbrev far : PriorityGraph
  far = runs_of terminator hay later states

  -- a step that comes to a place by the end is one of the same steps within it
  go_by-nearer : (o : Option ℕ) (next i : ℕ) (d : Configuration) → Contains (go_by terminator hay later o next i) d → d.place ≤ end
      → go_by terminator hay end o next i ≡ go_by terminator hay later o next i
  go_by-nearer None next i d m low = refl
  go_by-nearer (Some n) next i d m low =
      by_test (nat_le (i + n) later)
      (λ fits.
      let place : i + n ≡ d.place = ap (λ (c : Configuration). c.place) (only-among (at next (i + n)) d (rw fits at m)) in
      let fits' : nat_le (i + n) end ≡ true = grind (arith, nat_tests) in
      rw (fits, fits') refl)
      (λ none. absurd (none-among d (rw none at m)))

  step-nearer : (s : State) (i : ℕ) (d : Configuration) → Contains (state_step terminator hay later s i) d → d.place ≤ end
      → state_step terminator hay end s i ≡ state_step terminator hay later s i
  step-nearer (text bytes next) i d m low = go_by-nearer (if stands_at hay i bytes then Some (length bytes) else None) next i d m low
  step-nearer (set members next) i d m low = go_by-nearer (member_len hay members i) next i d m low
  step-nearer (assertion kind next) i d m low = refl
  step-nearer (slot number next) i d m low = refl
  step-nearer (choice qs) i d m low = refl
  step-nearer (accept pattern) i d m low = refl

  successors-nearer : (c d : Configuration) → Contains (far.successors c) d → d.place ≤ end → near.successors c ≡ far.successors c
  unfolding runs_of graph_of
  successors-nearer c d m low =
      let up = runs_of-rises terminator hay later states c d m in
      by_test (is_inside (machine_of terminator hay later states) later c)
      (λ e.
      let e' : is_inside (machine_of terminator hay end states) end c ≡ true = grind (arith, nat_tests) in
      rw (e, e') (step-nearer (state_at states c.state) c.place d (rw e at m) low))
      (λ e. absurd (none-among d (rw e at m)))

  accepted-nearer : (c : Configuration) → c.place ≤ end → near.accepted c ≡ far.accepted c
  unfolding runs_of graph_of
  accepted-nearer c low =
      by_test (is_inside (machine_of terminator hay later states) later c)
      (λ e. let e' : is_inside (machine_of terminator hay end states) end c ≡ true = grind (arith, nat_tests) in rw (e, e') refl)
      (λ e. let e' : is_inside (machine_of terminator hay end states) end c ≡ false = grind (arith, nat_tests) in rw (e, e') refl)

  module _ (ok : Sieve) where
    near-bounded : IsBounded (sieved ok near)
    near-bounded = sieved-bounded ok near (runs_of-bounded terminator hay end states)

    far-bounded : IsBounded (sieved ok far)
    far-bounded = sieved-bounded ok far (runs_of-bounded terminator hay later states)

    run-nearer : (p : Passed) (c : Configuration) (run : List Configuration) → IsRun (sieved ok far) p c run → (last_of c run).place ≤ end
        → IsRun (sieved ok near) p c run
    run-nearer p c [] r low = (r.0, ap (λ o. is_some (sifted ok c.place o)) (accepted-nearer c low) ∙ r.1)
    run-nearer p c (d ∷ run) r low =
        let up = run-rises (sieved ok far) (sieved-rises ok far (runs_of-rises terminator hay later states)) (and_at c p) d run r.2 in
        (r.0, subst (λ ds. Contains ds d) (sym (successors-nearer c d r.1 (omega arith))) r.1, run-nearer (and_at c p) d run r.2 low)

    run-further : (p : Passed) (c : Configuration) (run : List Configuration) → IsRun (sieved ok near) p c run → IsRun (sieved ok far) p c run
    run-further p c [] r =
        let low = runs_of-within terminator hay end states c (sifted-some ok c.place (near.accepted c) r.1) in
        (r.0, sym (ap (λ o. is_some (sifted ok c.place o)) (accepted-nearer c low)) ∙ r.1)
    run-further p c (d ∷ run) r = (r.0, successor-later terminator hay states end later le c d r.1, run-further (and_at c p) d run r.2)

    less-nearer : (p : Passed) (c : Configuration) (r s : List Configuration) → IsRun (sieved ok far) p c r → (last_of c r).place ≤ end
        → IsLess (sieved ok far) c r s → IsLess (sieved ok near) c r s
    less-nearer p c [] [] is low less = less
    less-nearer p c [] (e ∷ s) is low less = tt
    less-nearer p c (d ∷ r) [] is low less = less
    less-nearer p c (d ∷ r) (e ∷ s) is low (inl before) =
        let up = run-rises (sieved ok far) (sieved-rises ok far (runs_of-rises terminator hay later states)) (and_at c p) d r is.2 in
        inl (subst (λ ds. IsBefore ds d e) (sym (successors-nearer c d is.1 (omega arith))) before)
    less-nearer p c (d ∷ r) (e ∷ s) is low (inr same) = inr (same.0, less-nearer (and_at c p) d r s is.2 low same.1)

    first-nearer : (p : Passed) (c : Configuration) (run : List Configuration) → first_past (sieved ok far) p c ≡ Some run → (last_of c run).place ≤ end
        → first_past (sieved ok near) p c ≡ Some run
    first-nearer p c run h low =
        let first = first-is_first (sieved ok far) far-bounded p c run h in
        is_first-found (sieved ok near) near-bounded p c run (record {
          accepting = run-nearer p c run first.accepting low;
          least = λ other is. least p c run other first.accepting low (first.least other (run-further p c other is));
        })
      where
        least : (p : Passed) (c : Configuration) (run other : List Configuration) → IsRun (sieved ok far) p c run → (last_of c run).place ≤ end
            → (run ≡ other) ⊎ IsLess (sieved ok far) c run other → (run ≡ other) ⊎ IsLess (sieved ok near) c run other
        least p c run other is low (inl same) = inl same
        least p c run other is low (inr less) = inr (less-nearer p c run other is low less)

    trace-nearer : (c : Configuration) (run : List Configuration) → (last_of c run).place ≤ end → trace (sieved ok near) c run ≡ trace (sieved ok far) c run
    trace-nearer c [] low = λ i. record { pattern = unwrap_or (sifted ok c.place (accepted-nearer c low i)) 0; end = c.place; writes = [] }
    trace-nearer c (d ∷ run) low = λ i. with_write (written-later terminator hay states end later le c i) c.place (trace-nearer d run low i)

module _ (ok : Sieve) (r : Patterns) (hay : List ℕ) (end later : ℕ) (le : end ≤ later) where
  pub where-nearer : (p : ℕ) (h : Expression) (i : ℕ) (t : Trace) → first_where ok r hay later p h i ≡ Some t → t.end ≤ end
      → first_where ok r hay end p h i ≡ Some t
  unfolding first_where
  where-nearer p h i t is low =
      let part = build_pattern (slot_of r p) p h in
      let near = sieved ok (runs_of r.terminator hay end part.states) in
      let far = sieved ok (runs_of r.terminator hay later part.states) in
      let c = at part.start i in
      let x = mapped-some (trace far c) (first_past far nowhere c) t is in
      let ends : (last_of c x.0).place ≡ t.end = sym (trace-end far c x.0) ∙ ap (λ (u : Trace). u.end) x.2 in
      let low' : (last_of c x.0).place ≤ end = omega arith in
      ap (option_map (trace near c)) (first-nearer r.terminator hay part.states end later le ok nowhere c x.0 x.1 low')
      ∙ ap Some (trace-nearer r.terminator hay part.states end later le ok c x.0 low' ∙ x.2)

  pub none-nearer : (p : ℕ) (h : Expression) (i : ℕ) → first_where ok r hay later p h i ≡ None → first_where ok r hay end p h i ≡ None
  unfolding first_where
  none-nearer p h i none =
      let part = build_pattern (slot_of r p) p h in
      let near = sieved ok (runs_of r.terminator hay end part.states) in
      let far = sieved ok (runs_of r.terminator hay later part.states) in
      let c = at part.start i in
      by_trace (option_map (trace near c) (first_past near nowhere c))
      (λ e. e)
      (λ t e.
      let x = mapped-some (trace near c) (first_past near nowhere c) t e in
      let run = found-is_run near (near-bounded r.terminator hay part.states end later le ok) x.0 nowhere c x.1 in
      absurd (none-is_none far (far-bounded r.terminator hay part.states end later le ok) nowhere c (map-none (trace far c) (first_past far nowhere c) none) x.0
      (run-further r.terminator hay part.states end later le ok nowhere c x.0 run)))

  pub patterns-nearer : (k : ℕ) (hs : List Expression) (i : ℕ) (t : Trace) → first_of_patterns_where ok r hay later k hs i ≡ Some t → t.end ≤ end
      → first_of_patterns_where ok r hay end k hs i ≡ Some t
  unfolding first_of_patterns_where
  patterns-nearer k [] i t is low = none-is-some is
  patterns-nearer k (h ∷ hs) i t is low =
      by_trace (first_where ok r hay later k h i)
      (λ none.
      ap (λ o. option_or o (first_of_patterns_where ok r hay end (suc k) hs i)) (none-nearer k h i none)
      ∙ patterns-nearer (suc k) hs i t (sym (ap (λ o. option_or o (first_of_patterns_where ok r hay later (suc k) hs i)) none) ∙ is) low)
      (λ u e.
      let same : u ≡ t = some-is (sym (ap (λ o. option_or o (first_of_patterns_where ok r hay later (suc k) hs i)) e) ∙ is) in
      let low' : u.end ≤ end = subst (λ (v : Trace). v.end ≤ end) (sym same) low in
      ap (λ o. option_or o (first_of_patterns_where ok r hay end (suc k) hs i)) (where-nearer k h i u e low') ∙ ap Some same)

-- A next match, searched for anchored to its pattern over exactly its own span, is itself.
pub next-narrowed : (r : Patterns) (hay : List ℕ) (anchor : Anchor) (b a : ℕ) (m : Match) → next_match r hay anchor b a ≡ Some m
    → next_match r hay (anchored_to m.trace.pattern) m.trace.end m.start ≡ Some m
next-narrowed r hay anchor b a m e =
    let is = next-is r hay anchor b a m e in
    let within = next-within r hay anchor b a m e in
    let p = m.trace.pattern in
    let h = is.run.1.0 in
    let first-is : first r hay m.trace.end p h m.start ≡ Some m.trace =
    sym (first-everywhere r hay m.trace.end p h m.start)
    ∙ where-nearer everywhere r hay m.trace.end b within.2 p h m.start m.trace (first-everywhere r hay b p h m.start ∙ is.run.1.2) (omega arith) in
    is-next r hay (anchored_to p) m.trace.end m.start m (record {
      start = ((refl, within.1), is.start.1);
      run = (refl, (h, is.run.1.1, first-is));
      least_start = λ place q t may has. (let same = may.0.0 in omega arith);
      least_pattern = λ q t has. (let same = has.0 in omega arith);
    })
