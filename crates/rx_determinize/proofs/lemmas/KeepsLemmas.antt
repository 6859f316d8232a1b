-- The walks of an NFA whose patterns mean UTF-8 keep characters whole.
use Rattle.std.proofs.Common.{◌≡◌, ℕ, zero, suc, ◌+◌, ◌≤◌, ◌<◌, List, [], ◌∷◌, length, refl, sym, ◌∙◌, ap, subst, arith, true≢false}
use Rattle.std.specs.Prelude.{true, ◌==◌, Option, Some, None, option_map, is_some, slice_get, slice_index, slice_index_or}
use Rattle.std.proofs.lemmas.Bool.Decides.{nat_tests, Decides-eqb}
use Rattle.std.proofs.lemmas.Option.{get_or_from_slice_get, slice_get_within, slice_get-get_or}
use Rattle.rx_model.specs.Expression.{Expression, empty}
use Rattle.rx_model.specs.Meaning.{Means}
use Rattle.rx_model.specs.Runs.{Configuration, PriorityGraph, Sieve, Trace, nowhere, trace, first_trace, sieved, sifted, ending_at, Leads}
use Rattle.rx_model.specs.Search.{Anchor, free, anchored, anchored_to, Patterns, WhichCaptures, told, is_permitted, first_where, first_of_patterns_where}
use Rattle.rx_model.specs.Utf8.{MeansUtf8}
use Rattle.rx_model.proofs.lemmas.runs.RunLemmas.{by_test}
use Rattle.rx_model.proofs.lemmas.runs.FirstLemmas.{some-is, run-is_found}
use Rattle.rx_model.proofs.lemmas.graphs.SieveLemmas.{sieved-bounded}
use Rattle.rx_model.proofs.lemmas.graphs.SievedLemmas.{by_trace, where-permitted, where-means}
use Rattle.rx_model.proofs.lemmas.meaning.BoundaryLemmas.{part-permitted}
use Rattle.rx_model.proofs.lemmas.meaning.CutLemmas.{Leads-run}
use Rattle.rx_nfa.specs.Automaton.{at, automaton, forwards}
use Rattle.rx_nfa.specs.Nfa.{Nfa, HasRuns}
use Rattle.rx_nfa.specs.NextMatch.{start_of}
use Rattle.rx_nfa.proofs.lemmas.runs.AutomatonLemmas.{automaton-bounded}
use Rattle.rx_determinize.specs.Permitted.{KeepsCharacters}
use Rattle.rx_model.proofs.lemmas.runs.OptionLemmas.{some-or}

told-some : (which : WhichCaptures) (o : Option Trace) → is_some (option_map (told which) o) ≡ is_some o
told-some which None = refl
told-some which (Some t) = refl

-- of the patterns one has a first run
one-runs : (ok : Sieve) (r : Patterns) (text : List ℕ) (end i p : ℕ) (hs : List Expression) → is_some (first_of_patterns_where ok r text end p hs i) ≡ true
    → (k : ℕ) × (h : Expression) × (slice_get hs k ≡ Some h) × (is_some (first_where ok r text end (p + k) h i) ≡ true)
unfolding first_of_patterns_where
one-runs ok r text end i p [] some = absurd (true≢false (sym some))
one-runs ok r text end i p (h ∷ hs) some =
    by_test (is_some (first_where ok r text end p h i))
    (λ e. let here : p ≡ p + 0 = omega arith in (0, h, refl, ap (λ q. is_some (first_where ok r text end q h i)) (sym here) ∙ e))
    (λ e.
    let later : is_some (first_of_patterns_where ok r text end (suc p) hs i) ≡ true =
    rw e at (sym (some-or (first_where ok r text end p h i) (first_of_patterns_where ok r text end (suc p) hs i)) ∙ some) in
    let x = one-runs ok r text end i (suc p) hs later in
    let place : p + suc x.0 ≡ suc p + x.0 = omega arith in
    (suc x.0, x.1, x.2, ap (λ q. is_some (first_where ok r text end q x.1 i)) place ∙ x.3))

module _ (nfa : Nfa) (r : Patterns) (runs : HasRuns nfa r) (text : List ℕ) (utf8 : MeansUtf8 r text) (end : ℕ) (within : end ≤ length text) where
  abbrev g : PriorityGraph
  g = automaton nfa.terminator nfa.states text end

  sieved-walk : (pattern e n : ℕ) (c : Configuration) → Leads g pattern e n c → Leads (sieved (ending_at e) g) pattern e n c
  sieved-walk pattern e zero c h =
      let here : (c.place == e) ≡ true = (Decides-eqb c.place e).1 h.1 in
      let accepted : sifted (ending_at e) c.place (g.accepted c) ≡ Some pattern = ap (sifted (ending_at e) c.place) h.0 ∙ rw here refl in
      (accepted, h.1)
  sieved-walk pattern e (suc n) c h = (h.0, h.1, sieved-walk pattern e n h.0 h.2)

  walk-found : (pattern e n : ℕ) (c : Configuration) → Leads g pattern e n c → is_some (first_trace (sieved (ending_at e) g) c) ≡ true
  walk-found pattern e n c h =
      let walk = Leads-run (sieved (ending_at e) g) pattern e n c (sieved-walk pattern e n c h) in
      let found = run-is_found (sieved (ending_at e) g) (sieved-bounded (ending_at e) g (automaton-bounded (forwards nfa.terminator text) nfa.states end))
      walk.0 nowhere c walk.1 in
      ap (λ o. is_some (option_map (trace (sieved (ending_at e) g) c) o)) found.1

  abbrev Both : ℕ → ℕ → Type 0
  Both i e = (is_permitted true text i ≡ true) × (is_permitted true text e ≡ true)

  -- a pattern with a first run that ends there means the part
  run-permitted : (p : ℕ) (h : Expression) → slice_get r.expressions p ≡ Some h → (i e : ℕ) → i < e
      → is_some (first_where (ending_at e) r text end p h i) ≡ true → Both i e
  run-permitted p h is i e lt some =
      by_trace (first_where (ending_at e) r text end p h i)
      (λ none. absurd (true≢false (sym some ∙ ap is_some none)))
      (λ t found.
      let ends : t.end ≡ e = let k = where-permitted (ending_at e) r text end p h i t found in grind (arith, nat_tests) in
      part-permitted text utf8.whole i e lt
      (utf8.parts p h is i e lt (subst (λ j. Means r.terminator text h i j) ends (where-means (ending_at e) r text end p h i t found (utf8.ordered p h is)))))

  -- from the common start
  common-permitted : (q : ℕ) → nfa.start_anchored ≡ q → (i e : ℕ) → i < e → is_some (first_trace (sieved (ending_at e) g) (at q i)) ≡ true → Both i e
  common-permitted q same i e lt some =
      let x = one-runs (ending_at e) r text end i 0 r.expressions
      (sym (ap is_some (runs.all (ending_at e) text end i within)
      ∙ told-some r.which_captures (first_of_patterns_where (ending_at e) r text end 0 r.expressions i))
      ∙ ap (λ s. is_some (first_trace (sieved (ending_at e) g) (at s i))) same ∙ some) in
      let place : 0 + x.0 ≡ x.0 = omega arith in
      run-permitted x.0 x.1 x.2 i e lt (ap (λ p. is_some (first_where (ending_at e) r text end p x.1 i)) (sym place) ∙ x.3)

  start-permitted : (anchor : Anchor) (q : ℕ) → start_of nfa anchor ≡ Some q → (i e : ℕ) → i < e
      → is_some (first_trace (sieved (ending_at e) g) (at q i)) ≡ true → Both i e
  start-permitted free q is i e lt some = common-permitted q (some-is is) i e lt some
  start-permitted anchored q is i e lt some = common-permitted q (some-is is) i e lt some
  start-permitted (anchored_to p) q is i e lt some =
      let inside = slice_get_within nfa.starts p q is in
      let start : slice_index nfa.starts p ≡ q = get_or_from_slice_get nfa.starts p q 0 is in
      let count = runs.patterns in
      let h = slice_index_or r.expressions p empty in
      let there : slice_get r.expressions p ≡ Some h = slice_get-get_or r.expressions p empty (omega arith) in
      run-permitted p h there i e lt
      (sym (ap is_some (runs.each (ending_at e) text end p i h within there) ∙ told-some r.which_captures (first_where (ending_at e) r text end p h i))
      ∙ ap (λ s. is_some (first_trace (sieved (ending_at e) g) (at s i))) start ∙ some)

  pub walks-keep : (anchor : Anchor) (q : ℕ) → start_of nfa anchor ≡ Some q → KeepsCharacters nfa.terminator nfa.states text end q
  walks-keep anchor q is = record { spans = λ i e pattern n walk lt. start-permitted anchor q is i e lt (walk-found pattern e n (at q i) walk) }
