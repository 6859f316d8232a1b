-- Under `LeftmostFirst` the run is that of the next match of the NFA; of either kind there is one exactly where there is a next match.
use Rattle.std.proofs.Common.{◌≡◌, ℕ, zero, suc, ◌+◌, ◌-◌, ◌<◌, ◌≤◌, List, refl, sym, ◌∙◌, ap, subst, inl, inr, arith, true≢false}
use Rattle.std.specs.Prelude.{Bool, true, false, ◌&&◌, nat_lt, nat_le, Option, Some, None, option_map, is_some, if◌then◌else◌}
use Rattle.std.specs.Option.{option_or}
use Rattle.std.proofs.lemmas.Bool.Decides.{nat_tests, Decides-eqb}
use Rattle.rx_model.specs.Runs.{Configuration, PriorityGraph, IsBounded, Trace, ending_at, sieved, nowhere, trace, last_of, first_past, first_trace}
use Rattle.rx_model.specs.Search.{Anchor, free, anchored, anchored_to, is_permitted, is_anchored, first_start}
use Rattle.rx_model.proofs.lemmas.graphs.SieveLemmas.{sieved-everywhere, sieved-bounded}
use Rattle.rx_model.proofs.lemmas.graphs.SievedLemmas.{run-unsieved, run-sieved}
use Rattle.rx_model.proofs.lemmas.meaning.CoverLemmas.{run-pattern}
use Rattle.rx_model.proofs.lemmas.runs.FirstLemmas.{tells, found-is_run, run-is_found}
use Rattle.rx_model.proofs.lemmas.runs.RiseLemmas.{mapped-some, trace-end, found-end}
use Rattle.rx_model.proofs.lemmas.runs.RunLemmas.{by_test}
use Rattle.rx_search.specs.Input.{InputValue}
use Rattle.rx_search.specs.declared.anchored.MatchKind.{MatchKind}
use Rattle.rx_search.specs.declared.anchored.MatchKind.TheVariants.{All, LeftmostFirst}
use Rattle.rx_nfa.specs.Automaton.{at, automaton, forwards}
use Rattle.rx_nfa.specs.Nfa.{Nfa}
use Rattle.rx_nfa.specs.NextMatch.{start_of, first_from, next_match_of, next_match_in}
use Rattle.rx_nfa.proofs.lemmas.runs.AutomatonLemmas.{automaton-bounded, automaton-rises, automaton-accepts-within}
use Rattle.rx_onepass_table.specs.Along.{farthest, first_from as run_where}
use Rattle.rx_onepass_build.specs.Config.{kind_of}
use Rattle.rx_onepass.specs.Dfa.{Dfa}
use Rattle.rx_onepass.specs.Search.{taken_as, run_from, run_of, run_in, started_at}
use Rattle.rx_onepass.proofs.lemmas.PlaceLemmas.{farthest-some}
use Rattle.rx_onepass.proofs.lemmas.WalkLemmas.{or-first, or-second}

is-anchored : (a : Anchor) → is_anchored (taken_as a) ≡ true
is-anchored free = refl
is-anchored anchored = refl
is-anchored (anchored_to p) = refl

or-none : {A : Type 0} (o : Option A) → option_or o None ≡ o
or-none None = refl
or-none (Some x) = refl

module _ (d : Dfa) (v : InputValue) (first : kind_of d.config ≡ LeftmostFirst) where
  same-first : (o : Option ℕ) → first_from d.nfa.terminator d.nfa.states v.haystack v.end o v.start ≡ run_of (kind_of d.config) d.nfa v.haystack v.end o v.start
  same-first None = refl
  same-first (Some q) =
      subst (λ kind. first_trace (automaton d.nfa.terminator d.nfa.states v.haystack v.end) (at q v.start)
      ≡ run_of kind d.nfa v.haystack v.end (Some q) v.start) (sym first)
      (ap (λ g. first_trace g (at q v.start)) (sym (sieved-everywhere (automaton d.nfa.terminator d.nfa.states v.haystack v.end))))

  pub run-next : next_match_in d.nfa (record v { anchor = taken_as v.anchor }) ≡ option_map (started_at v.start) (run_in d v)
  unfolding next_match_of first_start
  run-next =
      by_test (nat_lt v.end v.start)
      (λ done.
      let none : nat_le v.start v.end ≡ false = grind (arith, nat_tests) in
      rw (done, none) refl)
      (λ left.
      let le : nat_le v.start v.end ≡ true = grind (arith, nat_tests) in
      let one = is-anchored v.anchor in
      rw (left, one, le) (or-none _ ∙ by (is_permitted d.nfa.utf8 v.haystack v.start)))
    where
      by : (b : Bool) → (if b then option_map (started_at v.start) (first_from d.nfa.terminator d.nfa.states v.haystack v.end (start_of d.nfa (taken_as v.anchor)) v.start) else None)
          ≡ option_map (started_at v.start) (if true && b then run_of (kind_of d.config) d.nfa v.haystack v.end (start_of d.nfa (taken_as v.anchor)) v.start else None)
      by true = ap (option_map (started_at v.start)) (same-first (start_of d.nfa (taken_as v.anchor)))
      by false = refl

-- Of the farthest end there is a run exactly where there is a first one.

farthest-has : (f : ℕ → Option Trace) (n i e : ℕ) → i ≤ e → e < i + n → is_some (f e) ≡ true → is_some (farthest f n i) ≡ true
unfolding farthest
farthest-has f zero i e low high some = absurd (omega arith)
farthest-has f (suc n) i e low high some =
    by_test (nat_lt i e)
    (λ t. or-first (farthest f n (i + 1)) (f i) (farthest-has f n (i + 1) e (grind (arith, nat_tests)) (omega arith) some))
    (λ t.
    let le : e ≤ i = grind (arith, nat_tests) in
    let same : e ≡ i = omega arith in
    or-second (farthest f n (i + 1)) (f i) (ap (λ j. is_some (f j)) (sym same) ∙ some))

module _ (nfa : Nfa) (text : List ℕ) (end q place : ℕ) (in_order : place ≤ end) where
  abbrev g : PriorityGraph
  g = automaton nfa.terminator nfa.states text end

  abbrev c : Configuration
  c = at q place

  bounded : IsBounded g
  bounded = automaton-bounded (forwards nfa.terminator text) nfa.states end

  abbrev ending : ℕ → Option Trace
  ending e = run_where nfa (ending_at e) text end q place

  -- a run to a single end is a run
  whole-has : (e : ℕ) (t : Trace) → ending e ≡ Some t → is_some (first_trace g c) ≡ true
  whole-has e t is =
      let x = mapped-some (trace (sieved (ending_at e) g) c) (first_past (sieved (ending_at e) g) nowhere c) t is in
      let found = found-is_run (sieved (ending_at e) g) (sieved-bounded (ending_at e) g bounded) x.0 nowhere c x.1 in
      let again = run-is_found g bounded x.0 nowhere c (run-unsieved (ending_at e) g nowhere c x.0 found) in
      ap (λ o. is_some (option_map (trace g c) o)) again.1

  -- and a run is one to its end
  end-has : (t : Trace) → first_trace g c ≡ Some t → is_some (ending t.end) ≡ true
  end-has t is =
      let x = mapped-some (trace g c) (first_past g nowhere c) t is in
      let run = found-is_run g bounded x.0 nowhere c x.1 in
      let taken = run-pattern g nowhere c x.0 run in
      let ends : (last_of c x.0).place ≡ t.end = sym (trace-end g c x.0) ∙ ap (λ (u : Trace). u.end) x.2 in
      let ok : ending_at t.end taken.0 (last_of c x.0).place ≡ true = (Decides-eqb (last_of c x.0).place t.end).1 ends in
      let again = run-is_found (sieved (ending_at t.end) g) (sieved-bounded (ending_at t.end) g bounded) x.0 nowhere c
      (run-sieved (ending_at t.end) g nowhere c x.0 taken.0 run taken.1 ok) in
      ap (λ o. is_some (option_map (trace (sieved (ending_at t.end) g) c) o)) again.1

  both-have : (n : ℕ) → n ≡ end + 1 - place → is_some (farthest ending n place) ≡ is_some (first_trace g c)
  both-have n count =
      elim (tells (first_trace g c)) [
        | inl none ↦
            elim (tells (farthest ending n place)) [
              | inl gone ↦ ap is_some gone ∙ sym (ap is_some none)
              | inr some ↦
                  (let x = farthest-some ending n place some.0 some.1 in
                  absurd (true≢false (sym (whole-has x.0 some.0 x.1) ∙ ap is_some none)))
            ]
        | inr some ↦
            let within = found-end g bounded (automaton-rises (forwards nfa.terminator text) nfa.states end) end
            (automaton-accepts-within (forwards nfa.terminator text) nfa.states end) nowhere c some.0 some.1 in
            let low = within.0 in
            let high = within.1 in
            farthest-has ending n place some.0.end low (omega arith) (end-has some.0 some.1) ∙ sym (ap is_some some.1)
      ]

  kind-has : (kind : MatchKind) → is_some (run_from kind nfa text end q place) ≡ is_some (first_trace g c)
  kind-has LeftmostFirst = ap (λ h. is_some (first_trace h c)) (sieved-everywhere g)
  kind-has All = both-have (end + 1 - place) refl

module _ (d : Dfa) (v : InputValue) where
  some-started : (o : Option Trace) → is_some (option_map (started_at v.start) o) ≡ is_some o
  some-started None = refl
  some-started (Some t) = refl

  start-has : v.start ≤ v.end → (o : Option ℕ)
      → is_some (run_of (kind_of d.config) d.nfa v.haystack v.end o v.start) ≡ is_some (first_from d.nfa.terminator d.nfa.states v.haystack v.end o v.start)
  start-has in_order None = refl
  start-has in_order (Some q) = kind-has d.nfa v.haystack v.end q v.start in_order (kind_of d.config)

  pub run-exists : is_some (run_in d v) ≡ is_some (next_match_in d.nfa (record v { anchor = taken_as v.anchor }))
  unfolding next_match_of first_start
  run-exists =
      by_test (nat_lt v.end v.start)
      (λ done.
      let none : nat_le v.start v.end ≡ false = grind (arith, nat_tests) in
      rw (done, none) refl)
      (λ left.
      let le : nat_le v.start v.end ≡ true = grind (arith, nat_tests) in
      let in_order : v.start ≤ v.end = grind (arith, nat_tests) in
      let one = is-anchored v.anchor in
      rw (left, one, le) (by in_order (is_permitted d.nfa.utf8 v.haystack v.start) ∙ sym (ap is_some (or-none _))))
    where
      by : v.start ≤ v.end → (b : Bool) → is_some (if true && b then run_of (kind_of d.config) d.nfa v.haystack v.end (start_of d.nfa (taken_as v.anchor)) v.start else None)
          ≡ is_some (if b then option_map (started_at v.start) (first_from d.nfa.terminator d.nfa.states v.haystack v.end (start_of d.nfa (taken_as v.anchor)) v.start) else None)
      by in_order true = start-has in_order (start_of d.nfa (taken_as v.anchor)) ∙ sym (some-started _)
      by in_order false = refl
