-- The stages of a search, for each end that it might have: what the threads at a place and the starts to come
-- lead to is the next match that ends by there.
use Rattle.std.proofs.Common.{◌≡◌, ℕ, zero, suc, ◌+◌, ◌-◌, ◌≤◌, ◌<◌, List, [], ◌∷◌, length, refl, sym, ◌∙◌, ap, subst, arith, true≢false}
use Rattle.std.specs.Prelude.{Bool, true, false, ◌&&◌, Option, Some, None, option_map, is_some, nat_lt, IfSome}
use Rattle.std.specs.Option.{option_or}
use Rattle.std.proofs.lemmas.Bool.Decides.{nat_tests}
use Rattle.rx_model.specs.Runs.{Passed, nowhere, first_trace}
use Rattle.rx_model.specs.Search.{Match}
use Rattle.rx_model.proofs.lemmas.runs.RunLemmas.{by_test, map-none}
use Rattle.rx_model.proofs.lemmas.runs.FirstLemmas.{none-is-some, some-is}
use Rattle.rx_model.proofs.lemmas.runs.RiseLemmas.{found-end}
use Rattle.rx_search.specs.Matches.{MatchValue}
use Rattle.rx_nfa.specs.Automaton.{at, forwards, byte_at}
use Rattle.rx_nfa.specs.Ordered.{passed_at}
use Rattle.rx_nfa.proofs.lemmas.runs.AutomatonLemmas.{automaton-bounded, automaton-rises, automaton-accepts-within}
use Rattle.rx_nfa.proofs.lemmas.runs.NextMatchLemmas.{first_start-from}
use Rattle.rx_engines.specs.Walk.{Slots}
use Rattle.rx_engines.specs.Threads.{Row}
use Rattle.rx_engines.specs.Simulation.{Hit, hit_of, best_hit, until, among, later_starts, MayPass}
use Rattle.rx_engines.specs.Search.{graph_until, may_start, next_until, next_of, first_place, answer_of}
use Rattle.rx_engines.specs.declared.search.Search.{Search}
use Rattle.rx_engines.specs.declared.pikevm.step.Accepted.{Accepted}
use Rattle.rx_engines.proofs.lemmas.threads.StartLemmas.{over-matched, over-past, over-end, starts-beyond, starts-skip, none-left}

-- The first place at which a test holds.

pub first_place-is : (test : ℕ → Bool) (other n i k : ℕ) → i ≤ k → k ≤ i + n → i + n ≡ other → ((e : ℕ) → i ≤ e → e < k → test e ≡ false) → test k ≡ true
    → first_place test other n i ≡ k
unfolding first_place
first_place-is test other zero i k low high last none here = omega arith
first_place-is test other (suc n) i k low high last none here =
    by_test (nat_lt i k)
    (λ e.
    let lt : i < k = grind (arith, nat_tests) in
    rw (none i (omega arith) lt) (first_place-is test other n (i + 1) k (omega arith) (omega arith) (omega arith) (λ j le less. none j (omega arith) less)
    here))
    (λ e.
    let same : i ≡ k = grind (arith, nat_tests) in
    let now : test i ≡ true = ap test same ∙ here in
    rw now same)

pub first_place-within : (test : ℕ → Bool) (other n i : ℕ) → i + n ≤ other → (i ≤ first_place test other n i) × (first_place test other n i ≤ other)
unfolding first_place
first_place-within test other zero i le = (omega arith, omega arith)
first_place-within test other (suc n) i le =
    by_test (test i)
    (λ e. rw e (omega arith, omega arith))
    (λ e. let h = first_place-within test other n (i + 1) (omega arith) in let low = h.0 in let high = h.1 in rw e (omega arith, omega arith))

pub first_place-alike : (test test' : ℕ → Bool) (other n i : ℕ) → ((e : ℕ) → i ≤ e → e < i + n → test e ≡ test' e)
    → first_place test other n i ≡ first_place test' other n i
unfolding first_place
first_place-alike test test' other zero i alike = refl
first_place-alike test test' other (suc n) i alike =
    rw (alike i (omega arith) (omega arith), first_place-alike test test' other n (i + 1) (λ e low high. alike e (omega arith) (omega arith))) refl

-- the same byte stands before both ends
pub byte-same : (text : List ℕ) (end other place : ℕ) → place < end → place < other → byte_at text end place ≡ byte_at text other place
byte-same text end other place lt less =
    let a : nat_lt place end ≡ true = grind (arith, nat_tests) in
    let b : nat_lt place other ≡ true = grind (arith, nat_tests) in
    rw (a, b) refl

pub not-some : {A : Type 0} (o : Option A) → is_some o ≡ false → o ≡ None
not-some None h = refl
not-some (Some x) h = absurd (true≢false h)

pub and-false : (a b : Bool) → false ≡ (a && b) → a ≡ true → b ≡ false
and-false true b h on = sym h
and-false false b h on = absurd (true≢false (sym on))

pub and-true : (a b : Bool) → true ≡ (a && b) → (a ≡ true) × (b ≡ true)
and-true true b h = (refl, sym h)
and-true false b h = absurd (true≢false h)

-- what was found last is not better where nothing is known yet
pub found-none : (f : Option Accepted) (best best' : Option MatchValue) (i : ℕ) → best' ≡ option_or (option_map (until i) f) best → best' ≡ None → f ≡ None
found-none None best best' i better none = refl
found-none (Some f) best best' i better none = none-is-some (sym none ∙ better)

-- a match ends where it began or after it
until-in_order : (offered : ℕ → Bool) (s : Search) (end : ℕ) (m : Match) → next_until offered s end ≡ Some m → m.start ≤ m.trace.end
until-in_order offered s end m h =
    let x = first_start-from (may_start offered s) (λ i. first_trace (graph_until s end) (at s.start i)) (s.last + 1 - s.first) s.first m h in
    (found-end (graph_until s end) (automaton-bounded (forwards s.matcher s.text.now) s.states.now end)
    (automaton-rises (forwards s.matcher s.text.now) s.states.now end) end (automaton-accepts-within (forwards s.matcher s.text.now) s.states.now end)
    nowhere (at s.start m.start) m.trace x.1).0

-- and it begins by the end
pub until-starts : (offered : ℕ → Bool) (s : Search) (end : ℕ) (m : Match) → next_until offered s end ≡ Some m → m.start ≤ end
until-starts offered s end m h =
    let x = first_start-from (may_start offered s) (λ i. first_trace (graph_until s end) (at s.start i)) (s.last + 1 - s.first) s.first m h in
    let ends = found-end (graph_until s end) (automaton-bounded (forwards s.matcher s.text.now) s.states.now end)
    (automaton-rises (forwards s.matcher s.text.now) s.states.now end) end (automaton-accepts-within (forwards s.matcher s.text.now) s.states.now end) nowhere
    (at s.start m.start) m.trace x.1 in
    let low = ends.0 in
    let high = ends.1 in
    omega arith

module _ (offered : ℕ → Bool) (s : Search) (width : ℕ) where
  abbrev pub Stage : (end : ℕ) → Option Hit → (place next : ℕ) → Passed → List Row → List ℕ → Type 0
  Stage end best place next p rows items =
      option_or (among s.states.now (graph_until s end) nowhere place rows items)
      (later_starts offered s end width best next p)
      ≡ option_map (hit_of width) (next_until offered s end)

  -- threads were started, with rows of some width
  pub seed-fits : (end : ℕ) (best : Option Hit) (i : ℕ) (p : Passed) (rows rows' : List Row) (items items' : List ℕ) {n : ℕ} → n ≡ width
      → (option_or (among s.states.now (graph_until s end) nowhere i rows items) (later_starts offered s end n best i p) ≡ option_map (hit_of width)
      (next_until offered s end)
      → option_or (among s.states.now (graph_until s end) nowhere i rows' items') (later_starts offered s end n best (i + 1) nowhere) ≡ option_map
      (hit_of width) (next_until offered s end))
      → Stage end best i i p rows items → Stage end best i (i + 1) nowhere rows' items'
  seed-fits end best i p rows rows' items items' same seeds value =
      (λ j. option_or (among s.states.now (graph_until s end) nowhere i rows' items') (later_starts offered s end (sym same j) best (i + 1) nowhere))
      ∙ seeds ((λ j. option_or (among s.states.now (graph_until s end) nowhere i rows items) (later_starts offered s end (same j) best i p)) ∙ value)

  -- places are passed at which none is alive, and none starts
  pub stage-passed : (end : ℕ) (best : Option MatchValue) (slots : Slots) (items : List ℕ) (rows : List Row) (i k : ℕ) → i ≤ k → {m : Bool} → m ≡ is_some best
      → {n : ℕ} → n ≡ length items → MayPass s m n i k → ((j : ℕ) → i ≤ j → j < k → offered j ≡ false)
      → Stage end (best_hit best slots) i i (passed_at items i) rows items → Stage end (best_hit best slots) k k (passed_at items k) rows items
  stage-passed end best slots items rows i k le m_is n_is may none_offered value =
      by_test (nat_lt i k)
      (λ e.
      let lt : i < k = grind (arith, nat_tests) in
      let here = may i (omega arith) lt in
      passed best items (not-some best (sym m_is ∙ here.0)) (none-left items (sym n_is ∙ here.1)) value)
      (λ e. let same : i ≡ k = grind (arith, nat_tests) in subst (λ k. Stage end (best_hit best slots) k k (passed_at items k) rows items) same value)
    where
      passed : (best : Option MatchValue) (items : List ℕ) → best ≡ None → items ≡ []
          → Stage end (best_hit best slots) i i (passed_at items i) rows items → Stage end (best_hit best slots) k k (passed_at items k) rows items
      passed (Some b) items none empty value = none-is-some (sym none)
      passed None (q ∷ qs) none empty value = absurd (let e = ap length empty in omega arith)
      passed None [] none empty value =
          let place : i + (k - i) ≡ k = omega arith in
          sym (starts-skip offered s end width (passed_at [] i) (k - i) i (λ j low high. none_offered j low (omega arith))
          ∙ ap (λ j. later_starts offered s end width None j (passed_at [] i)) place) ∙ value

  -- and where that leads past the end, there is no match
  pub stage-passed_over : (end : ℕ) (best : Option MatchValue) (slots : Slots) (items : List ℕ) (rows : List Row) (i k : ℕ) → i < k → end < k → {m : Bool}
      → m ≡ is_some best → {n : ℕ} → n ≡ length items → MayPass s m n i k → ((j : ℕ) → i ≤ j → j < k → offered j ≡ false)
      → Stage end (best_hit best slots) i i (passed_at items i) rows items → next_until offered s end ≡ None
  stage-passed_over end best slots items rows i k lt over m_is n_is may none_offered value =
      let here = may i (omega arith) lt in
      passed best items (not-some best (sym m_is ∙ here.0)) (none-left items (sym n_is ∙ here.1)) value
    where
      passed : (best : Option MatchValue) (items : List ℕ) → best ≡ None → items ≡ []
          → Stage end (best_hit best slots) i i (passed_at items i) rows items → next_until offered s end ≡ None
      passed (Some b) items none empty value = none-is-some (sym none)
      passed None (q ∷ qs) none empty value = absurd (let e = ap length empty in omega arith)
      passed None [] none empty value =
          let place : i + (k - i) ≡ k = omega arith in
          map-none (hit_of width) (next_until offered s end)
          (sym (sym (starts-skip offered s end width nowhere (k - i) i (λ j low high. none_offered j low (omega arith))
          ∙ ap (λ j. later_starts offered s end width None j nowhere) place
          ∙ starts-beyond offered s end width k over) ∙ value))

  -- no thread is left, and there is a match
  pub stage-matched : (end : ℕ) (best : Option MatchValue) (slots : Slots) (items : List ℕ) (rows : List Row) (i : ℕ) → items ≡ [] → is_some best ≡ true
      → Stage end (best_hit best slots) i (i + 1) nowhere rows items → best_hit best slots ≡ option_map (hit_of width) (next_until offered s end)
  stage-matched end best slots items rows i none h value =
      over-matched offered s end width best slots items rows i (option_map (hit_of width) (next_until offered s end)) none h value

  -- no thread is left, nor a start
  pub stage-past : (end : ℕ) (best : Option MatchValue) (slots : Slots) (items : List ℕ) (rows : List Row) (i : ℕ) → items ≡ [] → is_some best ≡ false
      → s.last ≤ i
      → Stage end (best_hit best slots) i (i + 1) nowhere rows items → next_until offered s end ≡ None
  stage-past end best slots items rows i none h le value =
      map-none (hit_of width) (next_until offered s end)
      (sym (over-past offered s end width best slots items rows i (option_map (hit_of width) (next_until offered s end)) none h le value))

  -- the end was passed
  pub stage-over : (end : ℕ) (best : Option MatchValue) (slots : Slots) (items : List ℕ) (rows : List Row) (p : Passed) (i : ℕ) → end < i → s.last < i
      → Stage end (best_hit best slots) i i p rows items → best_hit best slots ≡ option_map (hit_of width) (next_until offered s end)
  stage-over end best slots items rows p i lt past value =
      over-end offered s end width best slots items rows p i (option_map (hit_of width) (next_until offered s end)) lt past value

  -- at its end, the first thread that accepts has the match
  pub stage-accepted : (f : Option Accepted) (best best' : Option MatchValue) (slots : Slots) (old : Option Hit) (items : List ℕ) (rows : List Row) (i : ℕ)
      → among s.states.now (graph_until s i) nowhere i rows items ≡ best_hit (option_map (until i) f) slots
      → best' ≡ option_or (option_map (until i) f) best → best ≡ None → is_some best' ≡ true
      → Stage i old i (i + 1) nowhere rows items → best_hit best' slots ≡ option_map (hit_of width) (next_until offered s i)
  stage-accepted None best best' slots old items rows i accepts better none h value = absurd (true≢false (sym h ∙ ap is_some (better ∙ none)))
  stage-accepted (Some f) best best' slots old items rows i accepts better none h value =
      ap (λ b. best_hit b slots) better ∙ (rw accepts at value)

  -- its match began here or before
  pub stage-in_order : (f : Option Accepted) (slots : Slots) (old : Option Hit) (items : List ℕ) (rows : List Row) (i : ℕ)
      → among s.states.now (graph_until s i) nowhere i rows items ≡ best_hit (option_map (until i) f) slots
      → Stage i old i (i + 1) nowhere rows items → IfSome f (λ f. f.start ≤ i)
  stage-in_order None slots old items rows i accepts value = tt
  stage-in_order (Some f) slots old items rows i accepts value = in_order (next_until offered s i) refl (rw accepts at value)
    where
      in_order : (o : Option Match) → next_until offered s i ≡ o → best_hit (Some (until i f)) slots ≡ option_map (hit_of width) o → f.start ≤ i
      in_order None e h = none-is-some (sym h)
      in_order (Some m) e h =
          let up = until-in_order offered s i m e in
          let begins : f.start ≡ m.start = ap (λ (x : Hit). x.0) (some-is h) in
          let ends : i ≡ m.trace.end = ap (λ (x : Hit). x.1.end) (some-is h) in
          omega arith

  -- and where none accepts there is none
  pub stage-silent : (f : Option Accepted) (slots : Slots) (old : Option Hit) (items : List ℕ) (rows : List Row) (i : ℕ)
      → among s.states.now (graph_until s i) nowhere i rows items ≡ best_hit (option_map (until i) f) slots
      → f ≡ None → old ≡ None → Stage i old i (i + 1) nowhere rows items → next_until offered s i ≡ None
  stage-silent f slots old items rows i accepts none unmatched value =
      map-none (hit_of width) (next_until offered s i)
      (sym (sym (ap (λ o. option_or o (later_starts offered s i width None (i + 1) nowhere)) (accepts ∙ ap (λ o. best_hit (option_map (until i) o) slots) none)
      ∙ starts-beyond offered s i width (i + 1) (omega arith))
      ∙ (rw unmatched at value)))

-- the search stops at the first place by which a match ends
pub answer-stopped : (offered : ℕ → Bool) (s : Search) (place : ℕ) (earliest : Bool) → earliest ≡ true → s.first ≤ place → place ≤ s.end
    → ((e : ℕ) → s.first ≤ e → e < place → next_until offered s e ≡ None)
    → is_some (next_until offered s place) ≡ true → next_until offered s place ≡ answer_of offered s earliest
answer-stopped offered s place earliest on low high none here =
    ap (next_until offered s)
    (sym (first_place-is (λ e. is_some (next_until offered s e)) s.end (s.end - s.first) s.first place low (omega arith) (omega arith)
    (λ e le lt. ap is_some (none e le lt)) here))
    ∙ ap (λ b. answer_of offered s b) (sym on)

-- where no match ends at all, it finds none
pub answer-none : (offered : ℕ → Bool) (s : Search) (earliest : Bool) → earliest ≡ true → s.first ≤ s.end
    → ((e : ℕ) → s.first ≤ e → e ≤ s.end → next_until offered s e ≡ None) → answer_of offered s earliest ≡ None
answer-none offered s earliest on le none =
    let w = first_place-within (λ e. is_some (next_until offered s e)) s.end (s.end - s.first) s.first (omega arith) in
    let low = w.0 in
    let high = w.1 in
    ap (λ b. answer_of offered s b) on ∙ none (first_place (λ e. is_some (next_until offered s e)) s.end (s.end - s.first) s.first) low (omega arith)

-- without `earliest` it answers the next match
pub answer-late : (offered : ℕ → Bool) (s : Search) (earliest : Bool) → earliest ≡ false → next_of offered s ≡ answer_of offered s earliest
answer-late offered s earliest off = ap (λ b. answer_of offered s b) (sym off)
