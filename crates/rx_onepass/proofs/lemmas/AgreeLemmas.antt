-- What a search tells, of an NFA that has the runs of patterns: a match of the patterns, with its slots.
use Rattle.std.proofs.Common.{◌≡◌, ℕ, suc, ◌+◌, ◌*◌, ◌<◌, ◌≤◌, ◌==◌, List, [], ◌∷◌, length, refl, sym, ◌∙◌, ap, subst, inl, inr, arith, true≢false}
use Rattle.std.specs.Prelude.{true, false, ◌&&◌, nat_le, nat_lt, Option, Some, None, option_map, is_some, unwrap_or, slice_get, slice_index, slice_index_or}
use Rattle.std.proofs.lemmas.Bool.{eqb-true, eqb-false, and_parts}
use Rattle.std.proofs.lemmas.Bool.Decides.{nat_tests}
use Rattle.std.proofs.lemmas.Option.{get_or_from_slice_get, slice_get_within, slice_get-get_or}
use Rattle.rx_model.specs.Expression.{Expression, empty}
use Rattle.rx_model.specs.Runs.{Configuration, PriorityGraph, Sieve, Trace, sieved, nowhere, trace, with_write, last_of, first_past}
use Rattle.rx_model.specs.Search.{Anchor, free, anchored, anchored_to, Patterns, WhichCaptures, all, implicit, none, told, slot_of as first_slot, has_explicit_groups, Match, is_permitted, first_where, first_of_patterns_where, slot_value, told_of}
use Rattle.rx_model.specs.Matches.{IsStart, IsSought, MayStart, IsMatch, part_of, runs_of_pattern}
use Rattle.rx_model.proofs.lemmas.runs.RunLemmas.{by_test}
use Rattle.rx_model.proofs.lemmas.runs.FirstLemmas.{some-is, none-is-some, found-is_run}
use Rattle.rx_model.proofs.lemmas.runs.RiseLemmas.{mapped-some}
use Rattle.rx_model.proofs.lemmas.graphs.GraphLemmas.{runs_of-bounded}
use Rattle.rx_model.proofs.lemmas.graphs.SieveLemmas.{sieved-bounded}
use Rattle.rx_model.proofs.lemmas.graphs.SievedLemmas.{run-unsieved, where-pattern}
use Rattle.rx_model.proofs.lemmas.meaning.CoverLemmas.{run-pattern}
use Rattle.rx_model.proofs.lemmas.matches.WithinLemmas.{match-slots, match-others}
use Rattle.rx_search.specs.Input.{InputValue, next_in}
use Rattle.rx_search.specs.Told.{tells as asks}
use Rattle.rx_search.specs.declared.anchored.MatchKind.TheVariants.{LeftmostFirst}
use Rattle.rx_nfa.specs.Automaton.{at}
use Rattle.rx_nfa.specs.Nfa.{Nfa, IsInRange, HasRuns, IsNfaOf}
use Rattle.rx_nfa.specs.NextMatch.{start_of, next_match_in}
use Rattle.rx_nfa.proofs.lemmas.runs.NextMatchLemmas.{next_match_of-patterns}
use Rattle.rx_onepass_table.specs.Along.{first_from}
use Rattle.rx_onepass_table.specs.Entry.{explicit_start}
use Rattle.rx_onepass_build.specs.Config.{kind_of}
use Rattle.rx_onepass.specs.Dfa.{Dfa}
use Rattle.rx_onepass.specs.Search.{run_in, taken_as, is_explicit, slot_of, started_at}
use Rattle.rx_onepass.proofs.lemmas.NextLemmas.{run-next, run-exists}
use Rattle.rx_onepass.proofs.lemmas.PlaceLemmas.{IsRunOf, told-run, trace-past, sifted-some}
use Rattle.rx_onepass.proofs.lemmas.WalkLemmas.{or-cases}

-- What is told of a trace and of a match.

told-same : (w : WhichCaptures) → asks w ≡ true → (o : Option Trace) → option_map (told w) o ≡ o
told-same all e None = refl
told-same all e (Some t) = refl
told-same implicit e None = refl
told-same implicit e (Some t) = refl
told-same none e o = absurd (true≢false (sym e))

told-whole : (w : WhichCaptures) → asks w ≡ true → (o : Option Match) → option_map (told_of w) o ≡ o
told-whole all e None = refl
told-whole all e (Some m) = refl
told-whole implicit e None = refl
told-whole implicit e (Some m) = refl
told-whole none e o = absurd (true≢false (sym e))

told-some : (w : WhichCaptures) (o : Option Match) → is_some (option_map (told_of w) o) ≡ is_some o
told-some w None = refl
told-some w (Some m) = refl

-- Where a first run of a pattern is found, it is a match.

-- the trace of a run is the same in the sieved graph
trace-whole : (ok : Sieve) (g : PriorityGraph) (c : Configuration) (run : List Configuration) (p : ℕ) → g.accepted (last_of c run) ≡ Some p
    → (sieved ok g).accepted (last_of c run) ≡ Some p → trace (sieved ok g) c run ≡ trace g c run
trace-whole ok g c [] p accepts sifts = λ i. record { pattern = same i; end = c.place; writes = [] }
  where
    same : unwrap_or ((sieved ok g).accepted c) 0 ≡ unwrap_or (g.accepted c) 0
    same = ap (λ o. unwrap_or o 0) sifts ∙ sym (ap (λ o. unwrap_or o 0) accepts)
trace-whole ok g c (d ∷ run) p accepts sifts = ap (with_write (g.written c) c.place) (trace-whole ok g d run p accepts sifts)

-- one of the patterns has it
one-runs : (ok : Sieve) (r : Patterns) (text : List ℕ) (end i p : ℕ) (hs : List Expression) (t : Trace) → first_of_patterns_where ok r text end p hs i ≡ Some t
    → (k : ℕ) × (h : Expression) × (slice_get hs k ≡ Some h) × (first_where ok r text end (p + k) h i ≡ Some t)
unfolding first_of_patterns_where
one-runs ok r text end i p [] t is = none-is-some is
one-runs ok r text end i p (h ∷ hs) t is =
    elim (or-cases (first_where ok r text end p h i) (first_of_patterns_where ok r text end (suc p) hs i) t is) [
      | inl here ↦ (let place : p ≡ p + 0 = omega arith in (0, h, refl, ap (λ q. first_where ok r text end q h i) (sym place) ∙ here))
      | inr later ↦
          let x = one-runs ok r text end i (suc p) hs t later in
          let place : p + suc x.0 ≡ suc p + x.0 = omega arith in
          (suc x.0, x.1, x.2, ap (λ q. first_where ok r text end q x.1 i) place ∙ x.3)
    ]

module _ (r : Patterns) (text : List ℕ) (anchor : Anchor) (end a i : ℕ) (may : MayStart r text anchor end a i) (ok : Sieve) where
  where-match : (h : Expression) (t : Trace) → slice_get r.expressions t.pattern ≡ Some h → IsSought anchor t.pattern
      → first_where ok r text end t.pattern h i ≡ Some t → IsMatch r text anchor end a (started_at i t)
  unfolding first_where
  where-match h t there sought found =
      let graph = runs_of_pattern r text end t.pattern h in
      let c = at (part_of r t.pattern h).start i in
      let x = mapped-some (trace (sieved ok graph) c) (first_past (sieved ok graph) nowhere c) t found in
      let sieved_run = found-is_run (sieved ok graph) (sieved-bounded ok graph (runs_of-bounded r.terminator text end (part_of r t.pattern h).states)) x.0
      nowhere c x.1 in
      let sifts = run-pattern (sieved ok graph) nowhere c x.0 sieved_run in
      let accepts = sifted-some ok (last_of c x.0).place (graph.accepted (last_of c x.0)) sifts.0 sifts.1 in
      record {
        start = may;
        sought = sought;
        expression = h;
        is_there = there;
        run = x.0;
        accepting = run-unsieved ok graph nowhere c x.0 sieved_run;
        tells = sym x.2 ∙ trace-whole ok graph c x.0 sifts.0 accepts sifts.1;
      }

  pattern-match : (p : ℕ) (h : Expression) (t : Trace) → slice_get r.expressions p ≡ Some h → IsSought anchor p
      → first_where ok r text end p h i ≡ Some t → IsMatch r text anchor end a (started_at i t)
  pattern-match p h t there sought found =
      let same = where-pattern ok r text end p h i t found in
      where-match h t (ap (slice_get r.expressions) same ∙ there) (subst (IsSought anchor) (sym same) sought)
      (ap (λ q. first_where ok r text end q h i) same ∙ found)

  module _ (nfa : Nfa) (runs : HasRuns nfa r) (within : end ≤ length text) (asked : asks r.which_captures ≡ true) (t : Trace) where
    common-match : ((p : ℕ) → IsSought anchor p) → first_from nfa ok text end nfa.start_anchored i ≡ Some t → IsMatch r text anchor end a (started_at i t)
    common-match sought is =
        let x = one-runs ok r text end i 0 r.expressions t
        (sym (told-same r.which_captures asked (first_of_patterns_where ok r text end 0 r.expressions i)) ∙ sym (runs.all ok text end i within) ∙ is) in
        let place : 0 + x.0 ≡ x.0 = omega arith in
        pattern-match x.0 x.1 t x.2 (sought x.0) (ap (λ k. first_where ok r text end k x.1 i) (sym place) ∙ x.3)

    each-match : (k q : ℕ) → slice_get nfa.starts k ≡ Some q → IsSought anchor k → first_from nfa ok text end q i ≡ Some t
        → IsMatch r text anchor end a (started_at i t)
    each-match k q starts sought is =
        let inside = slice_get_within nfa.starts k q starts in
        let start : slice_index nfa.starts k ≡ q = get_or_from_slice_get nfa.starts k q 0 starts in
        let count = runs.patterns in
        let h = slice_index_or r.expressions k empty in
        let there : slice_get r.expressions k ≡ Some h = slice_get-get_or r.expressions k empty (omega arith) in
        pattern-match k h t there sought
        (sym (told-same r.which_captures asked (first_where ok r text end k h i)) ∙ sym (runs.each ok text end k i h within there)
        ∙ ap (λ s. first_from nfa ok text end s i) start ∙ is)

-- whichever patterns are sought
start-match : (r : Patterns) (text : List ℕ) (anchor : Anchor) (end i : ℕ) → MayStart r text anchor end i i → (ok : Sieve) (nfa : Nfa) → HasRuns nfa r
    → end ≤ length text → asks r.which_captures ≡ true → (t : Trace) (q : ℕ) → start_of nfa anchor ≡ Some q → first_from nfa ok text end q i ≡ Some t
    → IsMatch r text anchor end i (started_at i t)
start-match r text free end i may ok nfa runs within asked t q starts is =
    common-match r text free end i i may ok nfa runs within asked t (λ p. tt) (ap (λ s. first_from nfa ok text end s i) (some-is starts) ∙ is)
start-match r text anchored end i may ok nfa runs within asked t q starts is =
    common-match r text anchored end i i may ok nfa runs within asked t (λ p. tt) (ap (λ s. first_from nfa ok text end s i) (some-is starts) ∙ is)
start-match r text (anchored_to k) end i may ok nfa runs within asked t q starts is =
    each-match r text (anchored_to k) end i i may ok nfa runs within asked t k q starts refl is

start-is : (anchor : Anchor) (b a : ℕ) → a ≤ b → IsStart (taken_as anchor) b a a
start-is free b a le = (refl, le)
start-is anchored b a le = (refl, le)
start-is (anchored_to p) b a le = (refl, le)

-- the slots of explicit groups lie behind those of all spans
explicit-above : (r : Patterns) (p g first : ℕ) → first_slot r p g ≡ Some first → 2 * length r.expressions ≤ first
explicit-above r p g first h =
    by_test (has_explicit_groups r.which_captures)
    (λ e. let same = some-is (rw e at h) in omega arith)
    (λ e. none-is-some (rw e at h))

module _ (d : Dfa) (r : Patterns) (v : InputValue) (of : IsNfaOf d.nfa r) (within : v.end ≤ length v.haystack) where
  abbrev there : InputValue
  there = record v { anchor = taken_as v.anchor }

  abbrev anchor : Anchor
  anchor = taken_as v.anchor

  of-patterns : next_match_in d.nfa there ≡ option_map (told_of r.which_captures) (next_in r there)
  of-patterns = next_match_of-patterns d.nfa r v.haystack v.end within of.runs d.nfa.utf8 anchor v.start of.utf8

  -- something is found exactly where there is a match
  pub exists-told : is_some (run_in d v) ≡ is_some (next_in r there)
  exists-told = run-exists d v ∙ ap is_some of-patterns ∙ told-some r.which_captures (next_in r there)

  module _ (asked : asks r.which_captures ≡ true) where
    -- under leftmost-first it is the next match
    pub next-told : kind_of d.config ≡ LeftmostFirst → option_map (started_at v.start) (run_in d v) ≡ next_in r there
    next-told leftmost = sym (run-next d v leftmost) ∙ of-patterns ∙ told-whole r.which_captures asked (next_in r there)

    module _ (t : Trace) (is : run_in d v ≡ Some t) where
      abbrev m : Match
      m = started_at v.start t

      run : IsRunOf d.nfa v.haystack v.end (start_of d.nfa anchor) v.start t
      run = (told-run d v t is).1

      may : MayStart r v.haystack anchor v.end v.start v.start
      may =
          let both = and_parts (nat_le v.start v.end) (is_permitted d.nfa.utf8 v.haystack v.start) (told-run d v t is).0 in
          let ordered = both.0 in
          let le : v.start ≤ v.end = grind (arith, nat_tests) in
          (start-is v.anchor v.end v.start le, ap (λ u. is_permitted u v.haystack v.start) of.utf8 ∙ both.1)

      -- it is a match, whatever the kind
      pub match-told : IsMatch r v.haystack anchor v.end v.start m
      match-told = start-match r v.haystack anchor v.end v.start may run.ok d.nfa of.runs within asked t run.q run.starts run.is_first

      module _ (range : IsInRange d.nfa) where
        -- a slot of no explicit group, and not of the whole match
        other : (k : ℕ) → (k == 2 * t.pattern) ≡ false → (k == 2 * t.pattern + 1) ≡ false → is_explicit d.nfa k ≡ false → slot_value m k ≡ None
        other k opens closes explicit =
            by_test (nat_lt k (2 * length r.expressions))
            (λ below.
            let lt : k < 2 * length r.expressions = grind (arith, nat_tests) in
            match-others r v.haystack anchor v.end v.start m match-told match-told.expression match-told.is_there k (λ own. elim own [
              | inl first ↦ eqb-false _ _ opens first
              | inr rest ↦ elim rest [
                | inl second ↦ eqb-false _ _ closes second
                | inr group ↦ elim group.4 [
                  | inl here ↦ (let above = explicit-above r t.pattern group.0 group.1 group.3 in omega arith)
                  | inr here ↦ (let above = explicit-above r t.pattern group.0 group.1 group.3 in omega arith)
                ]
              ]
            ]))
            (λ above.
            let count = of.runs.patterns in
            let behind : nat_le (explicit_start d.nfa) k ≡ true = grind (arith, nat_tests) in
            let past : nat_lt k d.nfa.slots ≡ false = sym (ap (λ b. b && nat_lt k d.nfa.slots) behind) ∙ explicit in
            let le : d.nfa.slots ≤ k = grind (arith, nat_tests) in
            trace-past d.nfa range v.haystack v.end run.ok (at run.q v.start) t run.is_first k le)

        -- each slot holds what the match leaves in it
        pub slot-left : (k : ℕ) → slot_of d.nfa v.start t k ≡ slot_value m k
        slot-left k =
            let own = match-slots r v.haystack anchor v.end v.start m match-told in
            by_test (k == 2 * t.pattern)
            (λ opens. rw opens (sym (ap (slot_value m) (eqb-true _ _ opens) ∙ own.1)))
            (λ apart.
            by_test (k == 2 * t.pattern + 1)
            (λ closes. rw (apart, closes) (sym (ap (slot_value m) (eqb-true _ _ closes) ∙ own.2)))
            (λ apart_too.
            by_test (is_explicit d.nfa k)
            (λ e. rw (apart, apart_too, e) refl)
            (λ e. rw (apart, apart_too, e) (sym (other k apart apart_too e)))))
