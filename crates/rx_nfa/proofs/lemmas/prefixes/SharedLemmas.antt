-- An NFA whose states have other ones in their place, with the same first runs from its starts, does what it did.
use Rattle.std.proofs.Common.{◌≡◌, ℕ, ◌-◌, ◌<◌, List, length, Option, Some, None, refl, sym, ◌∙◌, ap, arith, true≢false}
use Rattle.std.specs.Prelude.{Bool, true, false, ◌&&◌, ◌==◌, ◌↔◌, All, is_some, slice_index}
use Rattle.std.proofs.lemmas.Bool.Decides.{nat_tests}
use Rattle.std.proofs.lemmas.List.Elements.{All-get_or}
use Rattle.std.proofs.lemmas.Option.{slice_get_within}
use Rattle.rx_model.specs.Runs.{Configuration, PriorityGraph, Sieve, sieved, for_pattern, nowhere, first_past, first_trace, Leads, IsBounded, IsRun, last_of, trace}
use Rattle.rx_model.specs.Search.{Patterns}
use Rattle.rx_model.proofs.lemmas.runs.RunLemmas.{map-none}
use Rattle.rx_model.proofs.lemmas.runs.FirstLemmas.{found-is_run, none-is_none}
use Rattle.rx_model.proofs.lemmas.runs.RiseLemmas.{mapped-some, run-accepts}
use Rattle.rx_model.proofs.lemmas.graphs.SieveLemmas.{sieved-bounded}
use Rattle.rx_model.proofs.lemmas.graphs.SievedLemmas.{run-unsieved, run-permitted, run-sieved}
use Rattle.rx_model.proofs.lemmas.meaning.CutLemmas.{Leads-run, run-Leads}
use Rattle.rx_nfa.specs.Automaton.{at, automaton_over, backwards}
use Rattle.rx_nfa.specs.Nfa.{Nfa, HasRuns, HasReverseRuns, LeadsBack}
use Rattle.rx_nfa.specs.Prefixes.{HasSameRuns}
use Rattle.rx_nfa.specs.declared.state.State.{State}
use Rattle.rx_nfa.proofs.lemmas.runs.AutomatonLemmas.{automaton-bounded}

pub HasSameRuns-same : (states : List State) (q : ℕ) → HasSameRuns states states q
HasSameRuns-same states q ok around end i = refl

pub HasSameRuns-trans : (a b c : List State) (q : ℕ) → HasSameRuns a b q → HasSameRuns b c q → HasSameRuns a c q
HasSameRuns-trans a b c q one other ok around end i = other ok around end i ∙ one ok around end i

-- by what an option has
by_some : {A P : Type 0} (o : Option A) → (o ≡ None → P) → ((x : A) → o ≡ Some x → P) → P
by_some None none some = none refl
by_some (Some x) none some = some x refl

-- Where two graphs tell the same of a configuration under each sieve, walks from it lead to the same acceptances.
walks : (g m : PriorityGraph) → IsBounded g → IsBounded m → (c : Configuration)
    → ((ok : Sieve) → first_trace (sieved ok m) c ≡ first_trace (sieved ok g) c)
    → (p place : ℕ) → (n : ℕ) × Leads g p place n c → (n : ℕ) × Leads m p place n c
walks g m bounded other c same p place w =
    by_some (first_trace (sieved ok g) c)
    (λ none. absurd (none-is_none (sieved ok g) (sieved-bounded ok g bounded) nowhere c
    (map-none (trace (sieved ok g) c) (first_past (sieved ok g) nowhere c) none)
    run.0 (run-sieved ok g nowhere c run.0 p run.1 run.2 (let ends = run.3 in grind (arith, nat_tests)))))
    (λ t e.
    let taken = mapped-some (trace (sieved ok m) c) (first_past (sieved ok m) nowhere c) t (same ok ∙ e) in
    let sifted = found-is_run (sieved ok m) (sieved-bounded ok m other) taken.0 nowhere c taken.1 in
    let plain = run-unsieved ok m nowhere c taken.0 sifted in
    by_some (m.accepted (last_of c taken.0))
    (λ none. absurd (true≢false (sym (run-accepts m nowhere c taken.0 plain) ∙ ap is_some none)))
    (λ q is.
    let may : for_pattern p (λ j. j == place) q (last_of c taken.0).place ≡ true = run-permitted ok m nowhere c taken.0 q sifted is in
    let both = parts (q == p) ((last_of c taken.0).place == place) may in
    let pattern : q ≡ p = (let k = both.0 in grind (arith, nat_tests)) in
    let ends : (last_of c taken.0).place ≡ place = (let k = both.1 in grind (arith, nat_tests)) in
    run-Leads m p place nowhere c taken.0 plain (is ∙ ap Some pattern) ends))
  where
    ok : Sieve
    ok = for_pattern p (λ j. j == place)

    run : (run : List Configuration) × IsRun g nowhere c run × (g.accepted (last_of c run) ≡ Some p) × ((last_of c run).place ≡ place)
    run = Leads-run g p place w.0 c w.1

    parts : (a b : Bool) → (a && b) ≡ true → (a ≡ true) × (b ≡ true)
    parts true b h = (refl, h)
    parts false b h = absurd (true≢false (sym h))

-- the NFA with these states
abbrev pub with_states : Nfa → List State → Nfa
with_states nfa states = record nfa { states = states }

-- a start of the NFA
start-same : (old new : List State) (starts : List ℕ) (p : ℕ) → All (HasSameRuns old new) starts → p < length starts
    → HasSameRuns old new (slice_index starts p)
start-same old new starts p all lt = All-get_or (HasSameRuns old new) starts p 0 lt all

pub HasRuns-shared : (r : Patterns) (nfa : Nfa) (old new : List State) → HasSameRuns old new nfa.start_anchored → All (HasSameRuns old new) nfa.starts
    → HasRuns (with_states nfa old) r → HasRuns (with_states nfa new) r
HasRuns-shared r nfa old new start starts runs = record {
  patterns = runs.patterns;
  each = λ ok text end p i h le is.
      (start-same old new nfa.starts p starts (let long = runs.patterns in let lt = slice_get_within r.expressions p h is in omega arith) ok _ end i
      ∙ runs.each ok text end p i h le is);
  all = λ ok text end i le. start ok _ end i ∙ runs.all ok text end i le;
}

pub HasReverseRuns-shared : (r : Patterns) (nfa : Nfa) (old new : List State) → HasSameRuns old new nfa.start_anchored
    → All (HasSameRuns old new) nfa.starts → HasReverseRuns (with_states nfa old) r → HasReverseRuns (with_states nfa new) r
HasReverseRuns-shared r nfa old new start starts runs = record {
  patterns = runs.patterns;
  each = λ text first p q i j h from le le' is.
      moved text (length text - first) (slice_index nfa.starts p) q i j
      (start-same old new nfa.starts p starts (let long = runs.patterns in let lt = slice_get_within r.expressions p h is in omega arith))
      (runs.each text first p q i j h from le le' is);
  all = λ text first q i j from le le'. moved text (length text - first) nfa.start_anchored q i j start (runs.all text first q i j from le le');
}
  where
    moved : {A : Type 0} (text : List ℕ) (end s q i j : ℕ) → HasSameRuns old new s
        → LeadsBack (with_states nfa old) text end s q i j ↔ A → LeadsBack (with_states nfa new) text end s q i j ↔ A
    moved text end s q i j same both =
        let around = backwards nfa.terminator text in
        let g = automaton_over (backwards nfa.terminator text) old end in
        let m = automaton_over (backwards nfa.terminator text) new end in (
          λ w. both.0 (walks (automaton_over (backwards nfa.terminator text) new end) (automaton_over (backwards nfa.terminator text) old end)
              (automaton-bounded (backwards nfa.terminator text) new end) (automaton-bounded (backwards nfa.terminator text) old end)
              (at s (length text - j)) (λ ok. sym (same ok (backwards nfa.terminator text) end (length text - j))) q (length text - i) w),
          λ a. walks (automaton_over (backwards nfa.terminator text) old end) (automaton_over (backwards nfa.terminator text) new end)
              (automaton-bounded (backwards nfa.terminator text) old end) (automaton-bounded (backwards nfa.terminator text) new end)
              (at s (length text - j)) (λ ok. same ok (backwards nfa.terminator text) end (length text - j)) q (length text - i) (both.1 a),
        )
