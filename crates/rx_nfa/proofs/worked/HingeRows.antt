-- Worked rows: NFAs that tell the right first runs, and that are refused, since they have not the runs.
use Rattle.std.proofs.Common.{◌≡◌, ℕ, List, [], ◌∷◌, Option, Some, None, refl, arith}
use Rattle.std.specs.Prelude.{true, false, ◌==◌}
use Rattle.std.proofs.lemmas.Option.{none-some}
use Rattle.rx_model.specs.Text.{stands_at}
use Rattle.rx_model.specs.Expression.{Expression, empty, literal, repetition, alternation, nil, cons}
use Rattle.rx_model.specs.Runs.{ending_at, Trace, first_past, first_within}
use Rattle.rx_model.specs.Machine.{graph_of}
use Rattle.rx_model.specs.Graph.{build, build_pattern, runs_of}
use Rattle.rx_model.specs.Search.{Patterns, all, greatest_group, first_where, first_of_patterns_where}
use Rattle.rx_nfa.specs.Automaton.{automaton_over}
use Rattle.rx_nfa.specs.Nfa.{Nfa, HasRuns}
use Rattle.rx_nfa.specs.declared.state.State.{State}
use Rattle.rx_nfa.specs.declared.state.State.TheVariants.{ByteRange, Capture, Match}

-- the states, from where each pattern starts, and from where all do
abbrev nfa_of : List State → (start : ℕ) → List ℕ → Nfa
nfa_of states start starts = record {
  states = states;
  start_anchored = start;
  starts = starts;
  slots = 0;
  groups = [];
  utf8 = true;
  reverse = false;
  terminator = 10;
  looks = 0;
  classes = [];
  always_start_anchored = false;
  has_empty = false;
  accounted = 0;
}

abbrev patterns : List Expression → Patterns
patterns hs = record { expressions = hs; utf8_empty = true; terminator = 10; which_captures = all }

-- `a`, compiled by itself
abbrev a_alone : List State
a_alone = Match 0 ∷ Capture 0 0 1 ∷ ByteRange 97 97 1 ∷ Capture 2 0 0 ∷ []

abbrev a_or_ab : Expression
a_or_ab = alternation (cons (literal (97 ∷ [])) (cons (literal (97 ∷ 98 ∷ [])) nil))

-- it is no NFA of `a|ab`: no run ends after the `b`
a_for_a_or_ab : HasRuns (nfa_of a_alone 3 (3 ∷ [])) (patterns (a_or_ab ∷ [])) → ⊥
unfolding automaton_over graph_of first_past first_within first_where build_pattern build runs_of greatest_group stands_at
a_for_a_or_ab runs =
    let here = runs.each (ending_at 2) (97 ∷ 98 ∷ []) 2 0 0 a_or_ab (omega arith) refl in
    let some : ◌≡◌ {A = Option Trace} None (Some (record { pattern = 0; end = 2; writes = (0, 0) ∷ (1, 2) ∷ [] })) = here in
    none-some _ some

-- the empty expression, compiled by itself
abbrev nothing_alone : List State
nothing_alone = Match 0 ∷ Capture 0 0 1 ∷ Capture 1 0 0 ∷ []

-- it is no NFA of `a*?`: no run ends after the `a`
nothing_for_lazy_star : HasRuns (nfa_of nothing_alone 2 (2 ∷ [])) (patterns (repetition 0 None false (literal (97 ∷ [])) ∷ [])) → ⊥
unfolding automaton_over graph_of first_past first_within first_where build_pattern build runs_of greatest_group stands_at
nothing_for_lazy_star runs =
    let here = runs.each (ending_at 1) (97 ∷ []) 1 0 0 (repetition 0 None false (literal (97 ∷ []))) (omega arith) refl in
    let some : ◌≡◌ {A = Option Trace} None (Some (record { pattern = 0; end = 1; writes = (0, 0) ∷ (1, 1) ∷ [] })) = here in
    none-some _ some

-- the empty expression and `b`
abbrev nothing_and_b : List State
nothing_and_b = Match 0 ∷ Capture 0 0 1 ∷ Capture 1 0 0 ∷ Match 1 ∷ Capture 3 1 3 ∷ ByteRange 98 98 4 ∷ Capture 5 1 2 ∷ []

-- it may not start at the first pattern alone: where only the second may be accepted, it is to be found
start_of_the_first : HasRuns (nfa_of nothing_and_b 2 (2 ∷ 6 ∷ [])) (patterns (empty ∷ literal (98 ∷ []) ∷ [])) → ⊥
unfolding automaton_over graph_of first_past first_within first_where first_of_patterns_where build_pattern build runs_of greatest_group stands_at
start_of_the_first runs =
    let here = runs.all (λ pattern place. pattern == 1) (98 ∷ []) 1 0 (omega arith) in
    let some : ◌≡◌ {A = Option Trace} None (Some (record { pattern = 1; end = 1; writes = (2, 0) ∷ (3, 1) ∷ [] })) = here in
    none-some _ some
