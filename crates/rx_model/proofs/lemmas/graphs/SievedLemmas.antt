-- Runs of a sieved graph are those of the graph whose end is permitted, so that what an expression means decides where they end.
use Rattle.std.proofs.Common.{◌≡◌, ℕ, zero, suc, ◌+◌, ◌≤◌, ◌<◌, ◌≢◌, List, [], ◌∷◌, refl, sym, ◌∙◌, ap, subst, arith, true≢false}
use Rattle.std.specs.Prelude.{true, false, if◌then◌else◌, Option, Some, None, is_some, unwrap_or, slice_get}
use Rattle.std.specs.Option.{option_or}
use Rattle.rx_model.specs.Expression.{Expression, AreOrdered}
use Rattle.rx_model.specs.Meaning.{Means}
use Rattle.rx_model.specs.Runs.{Configuration, PriorityGraph, Passed, Sieve, sifted, sieved, nowhere, and_at, IsRun, last_of, first_past, Trace, trace, IsBounded}
use Rattle.rx_model.specs.Graph.{Part, at, build_pattern, runs_of}
use Rattle.rx_model.specs.Search.{Patterns, slot_of, first_where, first_of_patterns_where}
use Rattle.rx_model.proofs.lemmas.runs.RunLemmas.{by_test, map-none}
use Rattle.rx_model.proofs.lemmas.runs.FirstLemmas.{none-is-some, some-is, found-is_run, none-is_none}
use Rattle.rx_model.proofs.lemmas.graphs.SieveLemmas.{sieved-bounded}
use Rattle.rx_model.proofs.lemmas.meaning.CoverLemmas.{run-pattern, run-means, means-run}
use Rattle.rx_model.proofs.lemmas.runs.RiseLemmas.{mapped-some, trace-end}
use Rattle.rx_model.proofs.lemmas.graphs.GraphLemmas.{runs_of-bounded, runs_of-within, runs_of-accepts, pattern-accepts, trace-pattern}

pub sifted-some : (ok : Sieve) (place : ℕ) (o : Option ℕ) → is_some (sifted ok place o) ≡ true → is_some o ≡ true
sifted-some ok place None h = h
sifted-some ok place (Some pattern) h = refl

-- a pattern that may be accepted
sifted-is : (ok : Sieve) (place pattern : ℕ) (o : Option ℕ) → o ≡ Some pattern → ok pattern place ≡ true → sifted ok place o ≡ Some pattern
sifted-is ok place pattern o e permitted = ap (sifted ok place) e ∙ ap (λ b. if b then Some pattern else None) permitted

sifted-permits : (ok : Sieve) (place pattern : ℕ) (o : Option ℕ) → o ≡ Some pattern → is_some (sifted ok place o) ≡ true → ok pattern place ≡ true
sifted-permits ok place pattern o e h =
    by_test (ok pattern place)
    (λ k. k)
    (λ k. absurd (true≢false (sym h ∙ ap (λ x. is_some (sifted ok place x)) e ∙ ap (λ b. is_some (if b then Some pattern else None)) k)))

module _ (ok : Sieve) (g : PriorityGraph) where
  -- a run of the sieved graph is one of the graph
  pub run-unsieved : (p : Passed) (c : Configuration) (run : List Configuration) → IsRun (sieved ok g) p c run → IsRun g p c run
  run-unsieved p c [] r = (r.0, sifted-some ok c.place (g.accepted c) r.1)
  run-unsieved p c (d ∷ run) r = (r.0, r.1, run-unsieved (and_at c p) d run r.2)

  -- and ends where its pattern may be accepted
  pub run-permitted : (p : Passed) (c : Configuration) (run : List Configuration) (pattern : ℕ) → IsRun (sieved ok g) p c run
      → g.accepted (last_of c run) ≡ Some pattern → ok pattern (last_of c run).place ≡ true
  run-permitted p c [] pattern r e = sifted-permits ok c.place pattern (g.accepted c) e r.1
  run-permitted p c (d ∷ run) pattern r e = run-permitted (and_at c p) d run pattern r.2 e

  -- a run of the graph that ends so is one of the sieved graph
  pub run-sieved : (p : Passed) (c : Configuration) (run : List Configuration) (pattern : ℕ) → IsRun g p c run → g.accepted (last_of c run) ≡ Some pattern
      → ok pattern (last_of c run).place ≡ true → IsRun (sieved ok g) p c run
  run-sieved p c [] pattern r e permitted = (r.0, ap is_some (sifted-is ok c.place pattern (g.accepted c) e permitted))
  run-sieved p c (d ∷ run) pattern r e permitted = (r.0, r.1, run-sieved (and_at c p) d run pattern r.2 e permitted)

module _ (ok : Sieve) (r : Patterns) (hay : List ℕ) (end p : ℕ) (h : Expression) (i : ℕ) where
  abbrev part : Part
  part = build_pattern (slot_of r p) p h

  abbrev graph : PriorityGraph
  graph = runs_of r.terminator hay end part.states

  abbrev from : Configuration
  from = at part.start i

  bounded : IsBounded (sieved ok graph)
  bounded = sieved-bounded ok graph (runs_of-bounded r.terminator hay end part.states)

  -- a run of the graph accepts the pattern
  accepts : (run : List Configuration) → IsRun graph nowhere from run → graph.accepted (last_of from run) ≡ Some p
  accepts run is =
      let q = run-pattern graph nowhere from run is in
      q.1 ∙ ap Some (pattern-accepts (slot_of r p) p h (last_of from run).state q.0
      (runs_of-accepts r.terminator hay end part.states (last_of from run) q.0 q.1))

  module _ (t : Trace) (is : first_where ok r hay end p h i ≡ Some t) where
    taken : (run : List Configuration) × (first_past (sieved ok graph) nowhere from ≡ Some run) × (trace (sieved ok graph) from run ≡ t)
    unfolding first_where
    taken = mapped-some (trace (sieved ok graph) from) (first_past (sieved ok graph) nowhere from) t is

    sieved-run : IsRun (sieved ok graph) nowhere from taken.0
    sieved-run = found-is_run (sieved ok graph) bounded taken.0 nowhere from taken.1

    run : IsRun graph nowhere from taken.0
    run = run-unsieved ok graph nowhere from taken.0 sieved-run

    ends : (last_of from taken.0).place ≡ t.end
    ends = sym (trace-end (sieved ok graph) from taken.0) ∙ ap (λ (u : Trace). u.end) taken.2

    permitted : ok p (last_of from taken.0).place ≡ true
    permitted = run-permitted ok graph nowhere from taken.0 p sieved-run (accepts taken.0 run)

    -- the first permitted run tells the pattern
    pub where-pattern : t.pattern ≡ p
    where-pattern =
        ap (λ (u : Trace). u.pattern) (sym taken.2) ∙ trace-pattern (sieved ok graph) from taken.0
        ∙ ap (λ o. unwrap_or o 0) (sifted-is ok (last_of from taken.0).place p (graph.accepted (last_of from taken.0)) (accepts taken.0 run) permitted)

    -- ends where that is permitted, within the span
    pub where-permitted : ok p t.end ≡ true
    where-permitted = ap (ok p) (sym ends) ∙ permitted

    pub where-end : t.end ≤ end
    where-end = subst (λ j. j ≤ end) ends (runs_of-within r.terminator hay end part.states (last_of from taken.0) (ap is_some (accepts taken.0 run)))

    -- and where the expression means what lies between
    pub where-means : AreOrdered h → Means r.terminator hay h i t.end
    where-means ordered = subst (λ j. Means r.terminator hay h i j) ends (run-means r.terminator hay end (slot_of r p) p h ordered i taken.0 run)

  -- where there is none, the expression means nothing that ends so
  pub where-none : AreOrdered h → first_where ok r hay end p h i ≡ None → (j : ℕ) → j ≤ end → ok p j ≡ true → Means r.terminator hay h i j → ⊥
  unfolding first_where
  where-none ordered none j le may m =
      let run = means-run r.terminator hay end (slot_of r p) p h ordered i j le m in
      none-is_none (sieved ok graph) bounded nowhere from (map-none (trace (sieved ok graph) from) (first_past (sieved ok graph) nowhere from) none) run.0
      (run-sieved ok graph nowhere from run.0 p run.1 (accepts run.0 run.1) (ap (ok p) run.2 ∙ may))

-- by whether there is a trace
pub by_trace : {P : Type 0} (o : Option Trace) → (o ≡ None → P) → ((t : Trace) → o ≡ Some t → P) → P
by_trace None none some = none refl
by_trace (Some t) none some = some t refl

-- Where one pattern alone may be accepted, the first run over the patterns in order is its own.
module _ (ok : Sieve) (r : Patterns) (hay : List ℕ) (end p i : ℕ) (alone : (q j : ℕ) → q ≢ p → ok q j ≡ false) where
  other-none : (q : ℕ) (h : Expression) → q ≢ p → first_where ok r hay end q h i ≡ None
  other-none q h differ =
      by_trace (first_where ok r hay end q h i)
      (λ none. none)
      (λ t e. absurd (true≢false (sym (where-permitted ok r hay end q h i t e) ∙ alone q t.end differ)))

  later-none : (k : ℕ) (hs : List Expression) → p < k → first_of_patterns_where ok r hay end k hs i ≡ None
  unfolding first_of_patterns_where
  later-none k [] past = refl
  later-none k (h ∷ hs) past =
      λ j. option_or (other-none k h (λ same. omega arith) j) (later-none (suc k) hs (omega arith) j)

  or-nothing : (o : Option Trace) → option_or o None ≡ o
  or-nothing None = refl
  or-nothing (Some t) = refl

  pub first-alone : (k n : ℕ) (hs : List Expression) (h : Expression) → p ≡ k + n → slice_get hs n ≡ Some h
      → first_of_patterns_where ok r hay end k hs i ≡ first_where ok r hay end p h i
  unfolding first_of_patterns_where
  first-alone k n [] h is there = none-is-some there
  first-alone k zero (x ∷ hs) h is there =
      let here : x ≡ h = some-is there in
      let place : k ≡ p = omega arith in
      ap (option_or (first_where ok r hay end k x i)) (later-none (suc k) hs (omega arith))
      ∙ or-nothing (first_where ok r hay end k x i)
      ∙ (λ j. first_where ok r hay end (place j) (here j) i)
  first-alone k (suc n) (x ∷ hs) h is there =
      λ j. option_or (other-none k x (λ same. omega arith) j) (first-alone (suc k) n hs h (omega arith) there j)
