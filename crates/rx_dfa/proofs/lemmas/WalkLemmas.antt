-- A walk of an NFA is a match of its patterns, and a match is a walk.
use Rattle.std.proofs.Common.{◌≡◌, ◌≢◌, ℕ, zero, suc, ◌+◌, ◌≤◌, List, [], ◌∷◌, length, refl, sym, ◌∙◌, ap, subst, inl, inr, arith, true≢false}
use Rattle.std.specs.Prelude.{true, false, if◌then◌else◌, ◌==◌, Option, Some, None, option_map, is_some, slice_get, slice_index, slice_index_or}
use Rattle.std.proofs.lemmas.Bool.{and_parts}
use Rattle.std.proofs.lemmas.Bool.Decides.{Decides-eqb}
use Rattle.std.proofs.lemmas.Option.{get_or_from_slice_get, slice_get_within, slice_get-get_or}
use Rattle.rx_model.specs.Expression.{Expression, empty}
use Rattle.rx_model.specs.Runs.{Configuration, PriorityGraph, Sieve, Trace, IsRun, IsBounded, nowhere, trace, first_past, first_trace, last_of, sieved, sifted, for_pattern, Leads}
use Rattle.rx_model.specs.Search.{Anchor, free, anchored, anchored_to, Patterns, WhichCaptures, told, slot_of, first_where, first_of_patterns_where}
use Rattle.rx_model.specs.Matches.{IsSought, part_of, runs_of_pattern}
use Rattle.rx_model.proofs.lemmas.runs.RunLemmas.{by_test}
use Rattle.rx_model.proofs.lemmas.runs.FirstLemmas.{some-is, tells, found-is_run, run-is_found}
use Rattle.rx_model.proofs.lemmas.runs.OptionLemmas.{some-or}
use Rattle.rx_model.proofs.lemmas.runs.RiseLemmas.{mapped-some, trace-end}
use Rattle.rx_model.proofs.lemmas.graphs.GraphLemmas.{runs_of-bounded, runs_of-accepts, pattern-accepts}
use Rattle.rx_model.proofs.lemmas.graphs.SieveLemmas.{sieved-bounded}
use Rattle.rx_model.proofs.lemmas.graphs.SievedLemmas.{by_trace, first-alone, run-unsieved, run-permitted, run-sieved, where-permitted}
use Rattle.rx_model.proofs.lemmas.meaning.CoverLemmas.{run-pattern}
use Rattle.rx_model.proofs.lemmas.meaning.CutLemmas.{Leads-run, run-Leads}
use Rattle.rx_nfa.specs.Automaton.{at, automaton, forwards}
use Rattle.rx_nfa.specs.Nfa.{Nfa, HasRuns}
use Rattle.rx_nfa.specs.NextMatch.{start_of}
use Rattle.rx_nfa.proofs.lemmas.runs.AutomatonLemmas.{automaton-bounded}

told-some : (which : WhichCaptures) (o : Option Trace) → is_some (option_map (told which) o) ≡ is_some o
told-some which None = refl
told-some which (Some t) = refl

-- this pattern alone, at this place alone
abbrev only : (p e : ℕ) → Sieve
only p e = for_pattern p (λ j. j == e)

only-is : (p e q j : ℕ) → only p e q j ≡ true → (q ≡ p) × (j ≡ e)
only-is p e q j h =
    let both = and_parts (q == p) (j == e) h in
    ((Decides-eqb q p).0 both.0, (Decides-eqb j e).0 both.1)

only-here : (p e : ℕ) → only p e p e ≡ true
only-here p e =
    let pattern : (p == p) ≡ true = (Decides-eqb p p).1 refl in
    let place : (e == e) ≡ true = (Decides-eqb e e).1 refl in
    rw (pattern, place) refl

only-alone : (p e q j : ℕ) → q ≢ p → only p e q j ≡ false
only-alone p e q j differ = by_test (q == p) (λ same. absurd (differ ((Decides-eqb q p).0 same))) (λ other. rw other refl)

-- of the patterns one has a first run
one-runs : (ok : Sieve) (r : Patterns) (text : List ℕ) (end i p : ℕ) (hs : List Expression) → is_some (first_of_patterns_where ok r text end p hs i) ≡ true
    → (k : ℕ) × (h : Expression) × (slice_get hs k ≡ Some h) × (is_some (first_where ok r text end (p + k) h i) ≡ true)
unfolding first_of_patterns_where
one-runs ok r text end i p [] some = absurd (true≢false (sym some))
one-runs ok r text end i p (h ∷ hs) some =
    by_test (is_some (first_where ok r text end p h i))
    (λ e. let here : p ≡ p + 0 = omega arith in (0, h, refl, ap (λ q. is_some (first_where ok r text end q h i)) (sym here) ∙ e))
    (λ e.
    let later : is_some (first_of_patterns_where ok r text end (suc p) hs i) ≡ true =
    rw e at (sym (some-or (first_where ok r text end p h i) (first_of_patterns_where ok r text end (suc p) hs i)) ∙ some) in
    let x = one-runs ok r text end i (suc p) hs later in
    let place : p + suc x.0 ≡ suc p + x.0 = omega arith in
    (suc x.0, x.1, x.2, ap (λ q. is_some (first_where ok r text end q x.1 i)) place ∙ x.3))

-- A run of the pattern's graph from place i ends at e.
pub record RunsTo (r : Patterns) (text : List ℕ) (e q : ℕ) (h : Expression) (i : ℕ) : Type 0 where
  pub run : List Configuration
  pub is : IsRun (runs_of_pattern r text e q h) nowhere (at (part_of r q h).start i) run
  pub ends : (last_of (at (part_of r q h).start i) run).place ≡ e

-- the run accepts the pattern
pub run-accepts-it : (r : Patterns) (text : List ℕ) (e q : ℕ) (h : Expression) (i : ℕ) (x : RunsTo r text e q h i)
    → (runs_of_pattern r text e q h).accepted (last_of (at (part_of r q h).start i) x.run) ≡ Some q
run-accepts-it r text e q h i x =
    let last = last_of (at (part_of r q h).start i) x.run in
    let taken = run-pattern (runs_of_pattern r text e q h) nowhere (at (part_of r q h).start i) x.run x.is in
    taken.1 ∙ ap Some (pattern-accepts (slot_of r q) q h last.state taken.0
    (runs_of-accepts r.terminator text e (part_of r q h).states last taken.0 taken.1))

module _ (nfa : Nfa) (r : Patterns) (runs : HasRuns nfa r) (text : List ℕ) (e : ℕ) (within : e ≤ length text) (p : ℕ) where
  abbrev g : PriorityGraph
  g = automaton nfa.terminator nfa.states text e

  abbrev ok : Sieve
  ok = only p e

  bounded : IsBounded (sieved ok g)
  bounded = sieved-bounded ok g (automaton-bounded (forwards nfa.terminator text) nfa.states e)

  -- The pattern is sought, and has a run from the place to e.
  pub record HasRunOf (anchor : Anchor) (i : ℕ) : Type 0 where
    pub sought : IsSought anchor p
    pub expression : Expression
    pub is_there : slice_get r.expressions p ≡ Some expression
    pub runs_to : RunsTo r text e p expression i

  -- A walk is a run.

  sieved-walk : (n : ℕ) (c : Configuration) → Leads g p e n c → Leads (sieved ok g) p e n c
  sieved-walk zero c h =
      let may : ok p c.place ≡ true = ap (ok p) h.1 ∙ only-here p e in
      (ap (sifted ok c.place) h.0 ∙ ap (λ b. if b then Some p else None) may, h.1)
  sieved-walk (suc n) c h = (h.0, h.1, sieved-walk n h.0 h.2)

  walk-found : (n : ℕ) (c : Configuration) → Leads g p e n c → is_some (first_trace (sieved ok g) c) ≡ true
  walk-found n c h =
      let walk = Leads-run (sieved ok g) p e n c (sieved-walk n c h) in
      let found = run-is_found (sieved ok g) bounded walk.0 nowhere c walk.1 in
      ap (λ o. is_some (option_map (trace (sieved ok g) c) o)) found.1

  -- what is found where the sieve permits it is a run of this pattern
  where-run : (q : ℕ) (h : Expression) (i : ℕ) → is_some (first_where ok r text e q h i) ≡ true → (q ≡ p) × RunsTo r text e q h i
  unfolding first_where
  where-run q h i some =
      by_trace (first_where ok r text e q h i)
      (λ none. absurd (true≢false (sym some ∙ ap is_some none)))
      (λ t found.
      let graph = runs_of_pattern r text e q h in
      let c = at (part_of r q h).start i in
      let x = mapped-some (trace (sieved ok graph) c) (first_past (sieved ok graph) nowhere c) t found in
      let sieved_run = found-is_run (sieved ok graph) (sieved-bounded ok graph (runs_of-bounded r.terminator text e (part_of r q h).states)) x.0 nowhere c
      x.1 in
      let may = only-is p e q t.end (where-permitted ok r text e q h i t found) in (
        may.0,
        record {
          run = x.0;
          is = run-unsieved ok graph nowhere c x.0 sieved_run;
          ends = sym (trace-end (sieved ok graph) c x.0) ∙ ap (λ (u : Trace). u.end) x.2 ∙ may.1;
        },
      ))

  common-run : (anchor : Anchor) → IsSought anchor p → (q : ℕ) → nfa.start_anchored ≡ q → (n i : ℕ) → Leads g p e n (at q i) → HasRunOf anchor i
  common-run anchor sought q same n i walk =
      let x = one-runs ok r text e i 0 r.expressions
      (sym (ap is_some (runs.all ok text e i within) ∙ told-some r.which_captures (first_of_patterns_where ok r text e 0 r.expressions i))
      ∙ ap (λ s. is_some (first_trace (sieved ok g) (at s i))) same ∙ walk-found n (at q i) walk) in
      let place : 0 + x.0 ≡ x.0 = omega arith in
      let w = where-run x.0 x.1 i (ap (λ k. is_some (first_where ok r text e k x.1 i)) (sym place) ∙ x.3) in
      record {
        sought = sought;
        expression = x.1;
        is_there = ap (slice_get r.expressions) (sym w.0) ∙ x.2;
        runs_to = subst (λ k. RunsTo r text e k x.1 i) w.0 w.1;
      }

  pub walk-run : (anchor : Anchor) (q : ℕ) → start_of nfa anchor ≡ Some q → (n i : ℕ) → Leads g p e n (at q i) → HasRunOf anchor i
  walk-run free q is n i walk = common-run free tt q (some-is is) n i walk
  walk-run anchored q is n i walk = common-run anchored tt q (some-is is) n i walk
  walk-run (anchored_to k) q is n i walk =
      let inside = slice_get_within nfa.starts k q is in
      let start : slice_index nfa.starts k ≡ q = get_or_from_slice_get nfa.starts k q 0 is in
      let count = runs.patterns in
      let h = slice_index_or r.expressions k empty in
      let there : slice_get r.expressions k ≡ Some h = slice_get-get_or r.expressions k empty (omega arith) in
      let w = where-run k h i
      (sym (ap is_some (runs.each ok text e k i h within there) ∙ told-some r.which_captures (first_where ok r text e k h i))
      ∙ ap (λ s. is_some (first_trace (sieved ok g) (at s i))) start ∙ walk-found n (at q i) walk) in
      record {
        sought = sym w.0;
        expression = h;
        is_there = ap (slice_get r.expressions) (sym w.0) ∙ there;
        runs_to = subst (λ j. RunsTo r text e j h i) w.0 w.1;
      }

  -- A run is a walk.

  run-where : (h : Expression) (i : ℕ) → RunsTo r text e p h i → is_some (first_where ok r text e p h i) ≡ true
  unfolding first_where
  run-where h i x =
      let graph = runs_of_pattern r text e p h in
      let c = at (part_of r p h).start i in
      let sieved_run = run-sieved ok graph nowhere c x.run p x.is (run-accepts-it r text e p h i x) (ap (ok p) x.ends ∙ only-here p e) in
      let found = run-is_found (sieved ok graph) (sieved-bounded ok graph (runs_of-bounded r.terminator text e (part_of r p h).states)) x.run nowhere c
      sieved_run in
      ap (λ o. is_some (option_map (trace (sieved ok graph) c) o)) found.1

  found-walk : (c : Configuration) → is_some (first_trace (sieved ok g) c) ≡ true → (n : ℕ) × Leads g p e n c
  found-walk c some =
      elim (tells (first_past (sieved ok g) nowhere c)) [
        | inl none ↦ absurd (true≢false (sym some ∙ ap (λ o. is_some (option_map (trace (sieved ok g) c) o)) none))
        | inr found ↦
            let sieved_run = found-is_run (sieved ok g) bounded found.0 nowhere c found.1 in
            let run = run-unsieved ok g nowhere c found.0 sieved_run in
            let taken = run-pattern g nowhere c found.0 run in
            let may = only-is p e taken.0 (last_of c found.0).place (run-permitted ok g nowhere c found.0 taken.0 sieved_run taken.1) in
            run-Leads g p e nowhere c found.0 run (taken.1 ∙ ap Some may.0) may.1
      ]

  common-walk : (q : ℕ) → nfa.start_anchored ≡ q → (h : Expression) → slice_get r.expressions p ≡ Some h → (i : ℕ) → RunsTo r text e p h i
      → (n : ℕ) × Leads g p e n (at q i)
  common-walk q same h there i x =
      let place : p ≡ 0 + p = omega arith in
      found-walk (at q i)
      (ap (λ s. is_some (first_trace (sieved ok g) (at s i))) (sym same)
      ∙ ap is_some (runs.all ok text e i within)
      ∙ told-some r.which_captures (first_of_patterns_where ok r text e 0 r.expressions i)
      ∙ ap is_some (first-alone ok r text e p i (only-alone p e) 0 p r.expressions h place there)
      ∙ run-where h i x)

  pub run-walk : (anchor : Anchor) (q : ℕ) → start_of nfa anchor ≡ Some q → IsSought anchor p → (h : Expression) → slice_get r.expressions p ≡ Some h
      → (i : ℕ) → RunsTo r text e p h i → (n : ℕ) × Leads g p e n (at q i)
  run-walk free q is sought h there i x = common-walk q (some-is is) h there i x
  run-walk anchored q is sought h there i x = common-walk q (some-is is) h there i x
  run-walk (anchored_to k) q is sought h there i x =
      let own : slice_get nfa.starts p ≡ Some q = ap (slice_get nfa.starts) sought ∙ is in
      let start : slice_index nfa.starts p ≡ q = get_or_from_slice_get nfa.starts p q 0 own in
      found-walk (at q i)
      (ap (λ s. is_some (first_trace (sieved ok g) (at s i))) (sym start)
      ∙ ap is_some (runs.each ok text e p i h within there)
      ∙ told-some r.which_captures (first_where ok r text e p h i)
      ∙ run-where h i x)

  -- where the runs of a sought pattern start
  pub has-start : (anchor : Anchor) → IsSought anchor p → (h : Expression) → slice_get r.expressions p ≡ Some h → (q : ℕ) × (start_of nfa anchor ≡ Some q)
  has-start free sought h there = (nfa.start_anchored, refl)
  has-start anchored sought h there = (nfa.start_anchored, refl)
  has-start (anchored_to k) sought h there =
      let count = runs.patterns in
      let inside = slice_get_within r.expressions p h there in
      let own : slice_get nfa.starts p ≡ Some (slice_index nfa.starts p) = slice_get-get_or nfa.starts p 0 (omega arith) in
      (slice_index nfa.starts p, ap (slice_get nfa.starts) (sym sought) ∙ own)
