-- Accepting runs of a pattern's graph end where the expression means a part of the text.
use Rattle.std.proofs.Common.{◌≡◌, ℕ, ◌+◌, ◌*◌, ◌≤◌, List, [], ◌∷◌, refl, sym, ap, arith, get_or, true≢false}
use Rattle.std.specs.Prelude.{true, Option, Some, None, is_some}
use Rattle.rx_model.specs.Runs.{Configuration, PriorityGraph, Passed, nowhere, IsRun, last_of}
use Rattle.rx_model.specs.Meaning.{Means}
use Rattle.rx_model.specs.Expression.{Expression, AreOrdered}
use Rattle.rx_model.specs.Graph.{State, choice, accept, Part, build_group, build, build_pattern, at, runs_of}
use Rattle.rx_model.proofs.lemmas.meaning.CutLemmas.{Leads-run, run-Leads}
use Rattle.rx_model.proofs.lemmas.runs.RiseLemmas.{run-accepts}
use Rattle.rx_model.proofs.lemmas.graphs.PlacedLemmas.{Placed, Placed-first, Placed-rest}
use Rattle.rx_model.proofs.lemmas.meaning.SpellLemmas.{Spells-group, Spells-build, accepting-spelled, spelled-accepting}

some-of : (o : Option ℕ) → is_some o ≡ true → (x : ℕ) × (o ≡ Some x)
some-of None h = absurd (true≢false (sym h))
some-of (Some x) h = (x, refl)

-- the run ends where a pattern is accepted
pub run-pattern : (g : PriorityGraph) (passed : Passed) (c : Configuration) (run : List Configuration) → IsRun g passed c run
    → (pattern : ℕ) × (g.accepted (last_of c run) ≡ Some pattern)
run-pattern g passed c run r = some-of (g.accepted (last_of c run)) (run-accepts g passed c run r)

pub Placed-whole : (whole : List State) → Placed whole 0 whole
Placed-whole whole = record { within = omega arith; each = λ k lt. (let e : 0 + k ≡ k = omega arith in ap (λ n. get_or whole n (choice [])) e) }

-- what the pattern's accepting runs from i end at: the places j such that the expression means i..j
module _ (terminator : ℕ) (hay : List ℕ) (end : ℕ) (slots : ℕ → Option ℕ) (p : ℕ) (h : Expression) (ordered : AreOrdered h) where
  abbrev part : Part
  part = build_pattern slots p h

  abbrev graph : PriorityGraph
  graph = runs_of terminator hay end part.states

  pub run-means : (i : ℕ) (run : List Configuration) → IsRun graph nowhere (at part.start i) run
      → Means terminator hay h i (last_of (at part.start i) run).place
  unfolding build_pattern
  run-means i run is =
      let body = build_group (Some (2 * p)) (build slots h) 0 1 in
      let whole = accept p ∷ body.states in
      let placed = Placed-rest whole 0 (accept p) body.states (Placed-whole whole) in
      let last = last_of (at body.start i) run in
      let accepts = run-pattern graph nowhere (at body.start i) run is in
      let walk = run-Leads graph accepts.0 last.place nowhere (at body.start i) run is accepts.1 refl in
      accepting-spelled terminator hay end whole accepts.0 last.place (Means terminator hay h) (build_group (Some (2 * p)) (build slots h))
      (Spells-group terminator hay end whole accepts.0 last.place (Means terminator hay h) (Some (2 * p)) (build slots h)
      (Spells-build terminator hay end whole accepts.0 last.place slots h ordered))
      0 1 walk.0 i p placed (Placed-first whole 0 (accept p) body.states (Placed-whole whole)) walk.1

  pub means-run : (i j : ℕ) → j ≤ end → Means terminator hay h i j → (run : List Configuration) × IsRun graph nowhere (at part.start i) run
      × ((last_of (at part.start i) run).place ≡ j)
  unfolding build_pattern
  means-run i j le m =
      let body = build_group (Some (2 * p)) (build slots h) 0 1 in
      let whole = accept p ∷ body.states in
      let placed = Placed-rest whole 0 (accept p) body.states (Placed-whole whole) in
      let walk = spelled-accepting terminator hay end whole p j (Means terminator hay h) (build_group (Some (2 * p)) (build slots h))
      (Spells-group terminator hay end whole p j (Means terminator hay h) (Some (2 * p)) (build slots h)
      (Spells-build terminator hay end whole p j slots h ordered))
      0 1 i placed (Placed-first whole 0 (accept p) body.states (Placed-whole whole)) le m in
      let r = Leads-run graph p j walk.0 (at body.start i) walk.1 in
      (r.0, r.1, r.3)
