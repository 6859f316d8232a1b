-- What is told of a first run is told of the least accepting run.
use Rattle.std.proofs.Common.{◌≡◌, ℕ, List, sym, ap}
use Rattle.std.specs.Prelude.{Some, None, option_map}
use Rattle.rx_model.specs.Expression.{Expression}
use Rattle.rx_model.specs.Runs.{Configuration, PriorityGraph, Sieve, sieved, IsBounded, IsRun, IsFirst, nowhere, Trace, trace, first_past, first_trace}
use Rattle.rx_model.specs.Graph.{at}
use Rattle.rx_model.specs.Search.{Patterns, first, first_where}
use Rattle.rx_model.specs.Matches.{part_of, runs_of_pattern}
use Rattle.rx_model.proofs.lemmas.runs.RunLemmas.{map-none}
use Rattle.rx_model.proofs.lemmas.runs.FirstLemmas.{first-is_first, is_first-found, none-is_none}
use Rattle.rx_model.proofs.lemmas.runs.RiseLemmas.{mapped-some}
use Rattle.rx_model.proofs.lemmas.graphs.GraphLemmas.{runs_of-bounded}
use Rattle.rx_model.proofs.lemmas.graphs.SieveLemmas.{sieved-bounded}

-- in a bounded graph
module _ (g : PriorityGraph) (bounded : IsBounded g) (c : Configuration) where
  least-some : (t : Trace) → first_trace g c ≡ Some t → (run : List Configuration) × IsFirst g nowhere c run × (t ≡ trace g c run)
  least-some t h =
      let x = mapped-some (trace g c) (first_past g nowhere c) t h in
      (x.0, first-is_first g bounded nowhere c x.0 x.1, sym x.2)

  least-only : (run : List Configuration) → IsFirst g nowhere c run → first_trace g c ≡ Some (trace g c run)
  least-only run is = ap (option_map (trace g c)) (is_first-found g bounded nowhere c run is)

  least-none : first_trace g c ≡ None → (run : List Configuration) → IsRun g nowhere c run → ⊥
  least-none h run is = none-is_none g bounded nowhere c (map-none (trace g c) (first_past g nowhere c) h) run is

-- in the graph of a pattern
module _ (r : Patterns) (text : List ℕ) (end p : ℕ) (h : Expression) (i : ℕ) where
  abbrev graph : PriorityGraph
  graph = runs_of_pattern r text end p h

  abbrev from : Configuration
  from = at (part_of r p h).start i

  bounded : IsBounded graph
  bounded = runs_of-bounded r.terminator text end (part_of r p h).states

  pub first-some : (t : Trace) → first r text end p h i ≡ Some t → (run : List Configuration) × IsFirst graph nowhere from run × (t ≡ trace graph from run)
  unfolding first
  first-some t e = least-some graph bounded from t e

  pub first-only : (run : List Configuration) → IsFirst graph nowhere from run → first r text end p h i ≡ Some (trace graph from run)
  unfolding first
  first-only run is = least-only graph bounded from run is

  pub first-no_run : first r text end p h i ≡ None → (run : List Configuration) → IsRun graph nowhere from run → ⊥
  unfolding first
  first-no_run e run is = least-none graph bounded from e run is

  -- where acceptance is permitted only so
  module _ (ok : Sieve) where
    abbrev sifting : PriorityGraph
    sifting = sieved ok graph

    pub where-some : (t : Trace) → first_where ok r text end p h i ≡ Some t
        → (run : List Configuration) × IsFirst sifting nowhere from run × (t ≡ trace sifting from run)
    unfolding first_where
    where-some t e = least-some sifting (sieved-bounded ok graph bounded) from t e

    pub where-only : (run : List Configuration) → IsFirst sifting nowhere from run → first_where ok r text end p h i ≡ Some (trace sifting from run)
    unfolding first_where
    where-only run is = least-only sifting (sieved-bounded ok graph bounded) from run is

    pub where-no_run : first_where ok r text end p h i ≡ None → (run : List Configuration) → IsRun sifting nowhere from run → ⊥
    unfolding first_where
    where-no_run e run is = least-none sifting (sieved-bounded ok graph bounded) from e run is
