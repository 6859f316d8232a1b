-- A search of the PikeVM as it goes on: whatever places will be offered, what it leads to is the next match of the places
-- that were offered and will be.
use Rattle.std.proofs.Common.{◌≡◌, ℕ, ◌+◌, ◌≤◌, ◌<◌, List, [], length, refl, sym, ◌∙◌, ap, arith, true≢false}
use Rattle.std.specs.Prelude.{Bool, true, false, ◌&&◌, Option, None, option_map, is_some, nat_lt, nat_le, IfNone, IfSome, if◌then◌else◌}
use Rattle.std.specs.Option.{option_or}
use Rattle.std.proofs.lemmas.Bool.Decides.{nat_tests}
use Rattle.rx_model.specs.Runs.{Passed, nowhere}
use Rattle.rx_model.proofs.lemmas.runs.RunLemmas.{by_test}
use Rattle.rx_search.specs.Matches.{MatchValue}
use Rattle.rx_nfa.specs.Automaton.{byte_at}
use Rattle.rx_nfa.specs.Ordered.{passed_at, IsStable}
use Rattle.rx_engines.specs.Walk.{Slots}
use Rattle.rx_engines.specs.Threads.{Row}
use Rattle.rx_engines.specs.Search.{IsInside, graph_until, is_offered, may_begin, OffersAll, next_until}
use Rattle.rx_engines.specs.Simulation.{Hit, hit_of, best_hit, until, among, later_starts, MayPass, Stepped, IsFound}
use Rattle.rx_engines.specs.declared.search.Search.{Search}
use Rattle.rx_engines.specs.declared.pikevm.step.Accepted.{Accepted}
use Rattle.rx_engines.proofs.lemmas.threads.StartLemmas.{later-stable, after-step, best-some, reported-some, known-some}
use Rattle.rx_engines.proofs.lemmas.threads.StageLemmas.{Stage, byte-same, and-true, found-none, seed-fits, stage-passed, stage-passed_over, stage-matched, stage-past, stage-over, stage-accepted, stage-in_order, stage-silent, answer-stopped, answer-none, answer-late}

-- What is known at place i, if these places are offered: of the end of the span, and of each end that the search might have.
pub record Stages (offered : ℕ → Bool) (s : Search) (earliest : Bool) (width : ℕ) (best : Option MatchValue) (slots : Slots) (i next : ℕ) (p : Passed)
    (rows : List Row) (items : List ℕ) : Type 0 where
  pub value : Stage offered s width s.end (best_hit best slots) i next p rows items
  pub values : (e : ℕ) → i ≤ e → e ≤ s.end → Stage offered s width e (best_hit best slots) i next p rows items
  pub none_before : earliest ≡ true → (e : ℕ) → s.first ≤ e → e < i → next_until offered s e ≡ None

-- Which places below `next` were offered, and what is known whatever places will be.
pub record Going (s : Search) (earliest : Bool) (width : ℕ) (best : Option MatchValue) (slots : Slots) (i next : ℕ) (p : Passed) (rows : List Row)
    (items : List ℕ) : Type 0 where
  pub past : ℕ → Bool
  pub offers : (j : ℕ) → j < next → is_offered s j ≡ true → may_begin s j ≡ true → past j ≡ true
  pub stages : (offered : ℕ → Bool) → ((j : ℕ) → j < next → offered j ≡ past j) → Stages offered s earliest width best slots i next p rows items

-- the places that were offered, and the candidates from k on
abbrev finally : Search → (past : ℕ → Bool) → (k j : ℕ) → Bool
finally s past k j = if nat_lt j k then past j else is_offered s j && may_begin s j

finally-past : (s : Search) (past : ℕ → Bool) (k j : ℕ) → j < k → finally s past k j ≡ past j
finally-past s past k j lt = let e : nat_lt j k ≡ true = grind (arith, nat_tests) in rw e refl

finally-passed : (s : Search) (past : ℕ → Bool) (k j : ℕ) → k ≤ j → is_offered s j ≡ false → finally s past k j ≡ false
finally-passed s past k j le none = let e : nat_lt j k ≡ false = grind (arith, nat_tests) in rw (e, none) refl

finally-offers : (s : Search) (past : ℕ → Bool) (k : ℕ) → ((j : ℕ) → j < k → is_offered s j ≡ true → may_begin s j ≡ true → past j ≡ true)
    → OffersAll s (finally s past k)
finally-offers s past k offers j lies begins =
    by_test (nat_lt j k)
    (λ e. rw e (offers j (grind (arith, nat_tests)) lies begins))
    (λ e. rw (e, lies, begins) refl)

-- the places that were offered, none of those that were passed, and the place k by the look at its byte
abbrev turned : Search → (past : ℕ → Bool) → (i k j : ℕ) → Bool
turned s past i k j = if nat_lt j i then past j else nat_le k j && may_begin s j

turned-past : (s : Search) (past : ℕ → Bool) (i k j : ℕ) → j < i → turned s past i k j ≡ past j
turned-past s past i k j lt = let e : nat_lt j i ≡ true = grind (arith, nat_tests) in rw e refl

turned-passed : (s : Search) (past : ℕ → Bool) (i k j : ℕ) → i ≤ j → j < k → turned s past i k j ≡ false
turned-passed s past i k j low high =
    let e : nat_lt j i ≡ false = grind (arith, nat_tests) in
    let f : nat_le k j ≡ false = grind (arith, nat_tests) in
    rw (e, f) refl

turned-here : (s : Search) (past : ℕ → Bool) (i k : ℕ) → i ≤ k → turned s past i k k ≡ may_begin s k
turned-here s past i k le =
    let e : nat_lt k i ≡ false = grind (arith, nat_tests) in
    let f : nat_le k k ≡ true = grind (arith, nat_tests) in
    rw (e, f) refl

-- The search begins.
pub going-begun : (s : Search) (earliest : Bool) (width : ℕ) (slots : Slots) (rows : List Row) (items : List ℕ) → items ≡ []
    → Going s earliest width None slots s.first s.first (passed_at items s.first) rows items
going-begun s earliest width slots rows items empty = record {
  past = λ j. true;
  offers = λ j lt lies begins. refl;
  stages = λ offered agrees. record {
    value = rw empty refl;
    values = λ e low high. rw empty refl;
    none_before = λ on e low less. absurd (omega arith);
  };
}

in_order : (s : Search) → IsInside s → s.first ≤ s.end
in_order s inside =
    let first = inside.first in
    let last = inside.last in
    omega arith

module _ (s : Search) (earliest : Bool) (width : ℕ) (inside : IsInside s) {best : Option MatchValue} {slots : Slots} where
  -- On from place i, with these threads.
  module _ {i : ℕ} {rows : List Row} {items : List ℕ} {m : Bool} {n : ℕ} (m_is : m ≡ is_some best) (n_is : n ≡ length items)
      (g : Going s earliest width best slots i i (passed_at items i) rows items) where
    -- there is no candidate from here on
    pub found-nowhere : i ≤ s.end → MayPass s m n i (s.end + 1) → (slots' : Slots) → IsFound s earliest width None slots'
    found-nowhere high may slots' =
        let final : ℕ → Bool = finally s g.past i in
        let known = g.stages final (finally-past s g.past i) in
        let none : (e : ℕ) → i ≤ e → e ≤ s.end → next_until final s e ≡ None =
        λ e low high. stage-passed_over final s width e best slots items rows i (s.end + 1) (omega arith) (omega arith) m_is n_is may
        (λ j from to. finally-passed s g.past i j from (may j from to).2) (known.values e low high) in
        record {
          offered = final;
          offers = finally-offers s g.past i g.offers;
          value = ap (option_map (hit_of width))
              (by_test earliest
              (λ on. sym (answer-none final s earliest on (in_order s inside)
              (λ e low high.
              by_test (nat_lt e i)
              (λ t. known.none_before on e low (grind (arith, nat_tests)))
              (λ t. none e (grind (arith, nat_tests)) high))))
              (λ off. sym (none s.end high (omega arith)) ∙ answer-late final s earliest off));
          any = ap is_some (sym (none s.end high (omega arith)));
        }

    -- the place k is reached, and a thread starts there or not
    pub begins-here : (k w : ℕ) (rows' : List Row) (items' : List ℕ) → i ≤ k → k ≤ s.end → MayPass s m n i k → w ≡ width
        → ((offered : ℕ → Bool) (end : ℕ) (b goal : Option Hit) → offered k ≡ may_begin s k → k ≤ end → m ≡ is_some b
        → option_or (among s.states.now (graph_until s end) nowhere k rows items) (later_starts offered s end w b k (passed_at items k)) ≡ goal
        → option_or (among s.states.now (graph_until s end) nowhere k rows' items') (later_starts offered s end w b (k + 1) nowhere) ≡ goal)
        → Going s earliest width best slots k (k + 1) nowhere rows' items'
    begins-here k w rows' items' reached within may wide seeded = record {
      past = turned s g.past i k;
      offers = λ j lt lies begins.
          by_test (nat_lt j i)
          (λ t. let below : j < i = grind (arith, nat_tests) in turned-past s g.past i k j below ∙ g.offers j below lies begins)
          (λ t.
          let low : i ≤ j = grind (arith, nat_tests) in
          by_test (nat_lt j k)
          (λ u. absurd (true≢false (sym lies ∙ (may j low (grind (arith, nat_tests))).2)))
          (λ u.
          let above : k ≤ j = grind (arith, nat_tests) in
          let same : j ≡ k = omega arith in
          ap (turned s g.past i k) same ∙ turned-here s g.past i k reached ∙ ap (may_begin s) (sym same) ∙ begins));
      stages = λ offered agrees.
          (let known = g.stages offered (λ j lt. agrees j (omega arith) ∙ turned-past s g.past i k j lt) in
          let none : (j : ℕ) → i ≤ j → j < k → offered j ≡ false = λ j low high. agrees j (omega arith) ∙ turned-passed s g.past i k j low high in
          let begun : offered k ≡ may_begin s k = agrees k (omega arith) ∙ turned-here s g.past i k reached in
          let matched : m ≡ is_some (best_hit best slots) = m_is ∙ sym (best-some best slots) in
          let starts : (e : ℕ) → k ≤ e → Stage offered s width e (best_hit best slots) i i (passed_at items i) rows items
          → Stage offered s width e (best_hit best slots) k (k + 1) nowhere rows' items' =
          λ e le v. seed-fits offered s width e (best_hit best slots) k (passed_at items k) rows rows' items items' wide
          (seeded offered e (best_hit best slots) (option_map (hit_of width) (next_until offered s e)) begun le matched)
          (stage-passed offered s width e best slots items rows i k reached m_is n_is may none v) in
          record {
            value = starts s.end within known.value;
            values = λ e low high. starts e low (known.values e (omega arith) high);
            none_before = λ on e low less.
                by_test (nat_lt e i)
                (λ t. known.none_before on e low (grind (arith, nat_tests)))
                (λ t.
                let from : i ≤ e = grind (arith, nat_tests) in
                stage-passed_over offered s width e best slots items rows i k (omega arith) less m_is n_is may none (known.values e from (omega arith)));
          });
    }

  -- At place k, once a thread started there or not.
  module _ {k : ℕ} {rows : List Row} {items : List ℕ} (within : k ≤ s.end) (unmatched : earliest ≡ true → best ≡ None)
      (g : Going s earliest width best slots k (k + 1) nowhere rows items) where
    abbrev final : ℕ → Bool
    final = finally s g.past (k + 1)

    all_offered : OffersAll s final
    all_offered = finally-offers s g.past (k + 1) g.offers

    known : Stages final s earliest width best slots k (k + 1) nowhere rows items
    known = g.stages final (finally-past s g.past (k + 1))

    -- no thread is left, and there is a match
    pub found-matched : items ≡ [] → is_some best ≡ true → IsFound s earliest width best slots
    found-matched empty some =
        let is = stage-matched final s width s.end best slots items rows k empty some known.value in
        record {
          offered = final;
          offers = all_offered;
          value = by_test earliest
              (λ on. absurd (true≢false (sym some ∙ ap is_some (unmatched on))))
              (λ off. is ∙ ap (option_map (hit_of width)) (answer-late final s earliest off));
          any = reported-some best slots width (next_until final s s.end) is;
        }

    -- no thread is left, nor a start
    pub found-past : items ≡ [] → is_some best ≡ false → s.last ≤ k → (slots' : Slots) → IsFound s earliest width None slots'
    found-past empty none last slots' =
        let past : (e : ℕ) → Stage final s width e (best_hit best slots) k (k + 1) nowhere rows items → next_until final s e ≡ None =
        λ e v. stage-past final s width e best slots items rows k empty none last v in
        record {
          offered = final;
          offers = all_offered;
          value = ap (option_map (hit_of width))
              (by_test earliest
              (λ on. sym (answer-none final s earliest on (in_order s inside)
              (λ e low high.
              by_test (nat_lt e k)
              (λ t. known.none_before on e low (grind (arith, nat_tests)))
              (λ t. past e (known.values e (grind (arith, nat_tests)) high)))))
              (λ off. sym (past s.end known.value) ∙ answer-late final s earliest off));
          any = ap is_some (sym (past s.end known.value));
        }

    -- a match that the step over the byte finds began here or before
    pub found-in_order : (f : Option Accepted) (slots' : Slots) → among s.states.now (graph_until s k) nowhere k rows items ≡ best_hit (option_map (until k) f)
        slots' → IfSome f (λ f. f.start ≤ k)
    found-in_order f slots' accepted = stage-in_order final s width f slots' (best_hit best slots) items rows k accepted (known.values k (omega arith) within)

    -- The threads stepped over the byte.
    module _ (f : Option Accepted) (best' : Option MatchValue) (slots' : Slots) (rows' : List Row) (items' : List ℕ)
        (accepted : among s.states.now (graph_until s k) nowhere k rows items ≡ best_hit (option_map (until k) f) slots')
        (better : best' ≡ option_or (option_map (until k) f) best) (kept : IfNone f (slots' ≡ slots))
        (stepped : (end : ℕ) (later : Passed → Option Hit) (goal : Option Hit) → k ≤ end → byte_at s.text.now end k ≡ byte_at s.text.now s.end k
        → IsStable (graph_until s end) later
        → option_or (among s.states.now (graph_until s end) nowhere k rows items) (later nowhere) ≡ goal
        → Stepped f s.states.now (graph_until s end) k later items' rows' slots' goal) where
      after : (offered : ℕ → Bool) (e : ℕ) → k ≤ e → byte_at s.text.now e k ≡ byte_at s.text.now s.end k
          → Stage offered s width e (best_hit best slots) k (k + 1) nowhere rows items
          → Stage offered s width e (best_hit best' slots') (k + 1) (k + 1) (passed_at items' (k + 1)) rows' items'
      after offered e le byte v =
          after-step offered s e width f best best' slots slots' items' rows' k (option_map (hit_of width) (next_until offered s e))
          (stepped e (later_starts offered s e width (best_hit best slots) (k + 1)) (option_map (hit_of width) (next_until offered s e)) le byte
          (later-stable offered s e width (best_hit best slots) (k + 1)) v)
          better kept

      -- the first match is enough
      pub found-enough : s.first ≤ k → true ≡ (earliest && is_some best') → IsFound s earliest width best' slots'
      found-enough low stops =
          let both = and-true earliest (is_some best') stops in
          let on = both.0 in
          let is = stage-accepted final s width f best best' slots' (best_hit best slots) items rows k accepted better (unmatched on) both.1
          (known.values k (omega arith) within) in
          record {
            offered = final;
            offers = all_offered;
            value = is
                ∙ ap (option_map (hit_of width))
                (answer-stopped final s k earliest on low within (known.none_before on)
                (sym (reported-some best' slots' width (next_until final s k) is) ∙ both.1));
            any = known-some (among s.states.now (graph_until s s.end) nowhere (k + 1) rows' items') best' slots' _ width (next_until final s s.end) both.1
                (after final s.end within refl known.value);
          }

      -- the search goes on
      pub goes-on : (earliest ≡ true → best' ≡ None) → Going s earliest width best' slots' (k + 1) (k + 1) (passed_at items' (k + 1)) rows' items'
      goes-on unmatched' = record {
        past = g.past;
        offers = g.offers;
        stages = λ offered agrees.
            (let told = g.stages offered agrees in
            record {
              value = after offered s.end within refl told.value;
              values = λ e low high. after offered e (omega arith) (byte-same s.text.now e s.end k (omega arith) (omega arith))
                  (told.values e (omega arith) high);
              none_before = λ on e low less.
                  by_test (nat_lt e k)
                  (λ t. told.none_before on e low (grind (arith, nat_tests)))
                  (λ t.
                  let same : k ≡ e = grind (arith, nat_tests) in
                  ap (next_until offered s) (sym same)
                  ∙ stage-silent offered s width f slots' (best_hit best slots) items rows k accepted
                  (found-none f best best' k better (unmatched' on))
                  (ap (λ b. best_hit b slots) (unmatched on))
                  (told.values k (omega arith) within));
            });
      }

  -- The end was passed.
  pub found-over : {i : ℕ} {p : Passed} {rows : List Row} {items : List ℕ} → Going s earliest width best slots i i p rows items → s.end < i
      → (earliest ≡ true → best ≡ None) → IsFound s earliest width best slots
  found-over {i} {p} {rows} {items} g over unmatched =
      let final : ℕ → Bool = finally s g.past i in
      let known = g.stages final (finally-past s g.past i) in
      let last = inside.last in
      let is = stage-over final s width s.end best slots items rows p i over (omega arith) known.value in
      record {
        offered = final;
        offers = finally-offers s g.past i g.offers;
        value = by_test earliest
            (λ on.
            ap (λ b. best_hit b slots) (unmatched on)
            ∙ ap (option_map (hit_of width))
            (sym (answer-none final s earliest on (in_order s inside) (λ e low high. known.none_before on e low (omega arith)))))
            (λ off. is ∙ ap (option_map (hit_of width)) (answer-late final s earliest off));
        any = reported-some best slots width (next_until final s s.end) is;
      }
