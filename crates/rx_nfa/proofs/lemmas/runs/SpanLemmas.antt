-- What the runs of an NFA reach, where acceptance is permitted at one place, or for one pattern there: the spans that the expressions mean.
use Rattle.std.proofs.Common.{◌≡◌, ◌≢◌, ℕ, ◌≤◌, List, Option, Some, None, length, refl, sym, ◌∙◌, ap, subst, arith, true≢false}
use Rattle.std.specs.Prelude.{Bool, true, false, ◌==◌, is_some, option_map, slice_get, slice_index}
use Rattle.std.proofs.lemmas.Bool.Decides.{nat_tests}
use Rattle.rx_model.specs.Expression.{Expression, AreOrdered}
use Rattle.rx_model.specs.Meaning.{Means}
use Rattle.rx_model.specs.Runs.{sieved, ending_at, for_pattern, Trace, first_trace}
use Rattle.rx_model.specs.Search.{Patterns, told, first_where}
use Rattle.rx_model.proofs.lemmas.runs.RunLemmas.{by_test}
use Rattle.rx_model.proofs.lemmas.graphs.SievedLemmas.{by_trace, where-permitted, where-means, where-none, first-alone}
use Rattle.rx_nfa.specs.Automaton.{at, automaton}
use Rattle.rx_nfa.specs.Nfa.{Nfa, HasRuns}

module _ (nfa : Nfa) (r : Patterns) (runs : HasRuns nfa r) (text : List ℕ) (end p i j : ℕ) (h : Expression) (within : end ≤ length text) (le : j ≤ end)
    (is : slice_get r.expressions p ≡ Some h) (ordered : AreOrdered h) where
  abbrev reached : Option Trace
  reached = first_trace (sieved (ending_at j) (automaton nfa.terminator nfa.states text end)) (at (slice_index nfa.starts p) i)

  told-some : (o : Option Trace) → is_some (option_map (told r.which_captures) o) ≡ is_some o
  told-some None = refl
  told-some (Some t) = refl

  same : is_some reached ≡ is_some (first_where (ending_at j) r text end p h i)
  same = ap is_some (runs.each (ending_at j) text end p i h within is) ∙ told-some (first_where (ending_at j) r text end p h i)

  pub reached-means : is_some reached ≡ true → Means r.terminator text h i j
  reached-means some =
      by_trace (first_where (ending_at j) r text end p h i)
      (λ none. absurd (true≢false (sym some ∙ same ∙ ap is_some none)))
      (λ t e.
      let ends : t.end ≡ j = let k = where-permitted (ending_at j) r text end p h i t e in grind (arith, nat_tests) in
      subst (λ k. Means r.terminator text h i k) ends (where-means (ending_at j) r text end p h i t e ordered))

  pub means-reached : Means r.terminator text h i j → is_some reached ≡ true
  means-reached m =
      by_trace (first_where (ending_at j) r text end p h i)
      (λ none. absurd (where-none (ending_at j) r text end p h i ordered none j le (grind (arith, nat_tests)) m))
      (λ t e. same ∙ ap is_some e)

-- from the common start each pattern has the runs that it has from its own
pub common-start : (nfa : Nfa) (r : Patterns) → HasRuns nfa r → (text : List ℕ) (end p i : ℕ) (h : Expression) → end ≤ length text
    → slice_get r.expressions p ≡ Some h → (may : ℕ → Bool)
    → first_trace (sieved (for_pattern p may) (automaton nfa.terminator nfa.states text end)) (at nfa.start_anchored i)
    ≡ first_trace (sieved (for_pattern p may) (automaton nfa.terminator nfa.states text end)) (at (slice_index nfa.starts p) i)
common-start nfa r runs text end p i h within is may =
    runs.all (for_pattern p may) text end i within
    ∙ ap (option_map (told r.which_captures)) (first-alone (for_pattern p may) r text end p i alone 0 p r.expressions h (omega arith) is)
    ∙ sym (runs.each (for_pattern p may) text end p i h within is)
  where
    alone : (q j : ℕ) → q ≢ p → for_pattern p may q j ≡ false
    alone q j differ = let apart : (q == p) ≡ false = by_test (q == p) (λ e. absurd (differ (grind (arith, nat_tests)))) (λ e. e) in rw apart refl
