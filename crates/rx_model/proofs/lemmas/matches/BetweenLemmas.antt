-- The next match where none may start inside a character, in terms of the next match without that rule.
use Rattle.std.proofs.Common.{◌≡◌, ℕ, ◌+◌, ◌<◌, List, refl, sym, ◌∙◌, ap, inl, inr, arith, true≢false}
use Rattle.std.specs.Prelude.{true, false, nat_lt, Some, None}
use Rattle.std.proofs.lemmas.Bool.Decides.{nat_tests}
use Rattle.rx_model.specs.Runs.{Trace}
use Rattle.rx_model.specs.Search.{Patterns, first, is_permitted, Anchor, free, anchored, anchored_to, is_anchored, Match, next_match}
use Rattle.rx_model.specs.Matches.{IsStart, MayStart, HasFirstRun}
use Rattle.rx_model.specs.Utf8.{anywhere, between_characters, MeansUtf8}
use Rattle.rx_model.proofs.lemmas.runs.RunLemmas.{by_test}
use Rattle.rx_model.proofs.lemmas.runs.FirstLemmas.{tells}
use Rattle.rx_model.proofs.lemmas.graphs.GraphLemmas.{first-means}
use Rattle.rx_model.proofs.lemmas.matches.MatchLemmas.{next-is, next-none, is-next, next-within}
use Rattle.rx_model.proofs.lemmas.meaning.BoundaryLemmas.{part-permitted}

module _ (r : Patterns) (text : List ℕ) (anchor : Anchor) (b : ℕ) where
  -- the rule chooses starts, and no runs
  run-between : (i p : ℕ) (t : Trace) → HasFirstRun (anywhere r) text anchor b i p t → HasFirstRun (between_characters r) text anchor b i p t
  unfolding first
  run-between i p t has = has

  run-anywhere : (i p : ℕ) (t : Trace) → HasFirstRun (between_characters r) text anchor b i p t → HasFirstRun (anywhere r) text anchor b i p t
  unfolding first
  run-anywhere i p t has = has

  may-anywhere : (a i : ℕ) → MayStart (between_characters r) text anchor b a i → MayStart (anywhere r) text anchor b a i
  may-anywhere a i may = (may.0, refl)

  -- where there is none without the rule, there is none with it
  pub between-none : (a : ℕ) → next_match (anywhere r) text anchor b a ≡ None → next_match (between_characters r) text anchor b a ≡ None
  between-none a none =
      elim (tells (next_match (between_characters r) text anchor b a)) [
        | inl e ↦ e
        | inr some ↦
            let m = some.0 in
            let p = m.trace.pattern in
            let is = next-is (between_characters r) text anchor b a m some.1 in
            absurd (next-none (anywhere r) text anchor b a none m.start p m.trace (may-anywhere a m.start is.start) (run-anywhere m.start p m.trace is.run))
      ]

  -- one that may start where it does is the next match with the rule
  between-some : (a : ℕ) (m : Match) → next_match (anywhere r) text anchor b a ≡ Some m → is_permitted true text m.start ≡ true
      → next_match (between_characters r) text anchor b a ≡ Some m
  between-some a m e permitted =
      let is = next-is (anywhere r) text anchor b a m e in
      is-next (between_characters r) text anchor b a m (record {
        start = (is.start.0, permitted);
        run = run-between m.start m.trace.pattern m.trace is.run;
        least_start = λ i p t may has. is.least_start i p t (may-anywhere a i may) (run-anywhere i p t has);
        least_pattern = λ p t has. is.least_pattern p t (run-anywhere m.start p t has);
      })

-- where it may not, an anchored search has none
module _ (r : Patterns) (text : List ℕ) where
  only-start : (anchor : Anchor) → is_anchored anchor ≡ true → (b a i : ℕ) → IsStart anchor b a i → i ≡ a
  only-start free is b a i start = absurd (true≢false (sym is))
  only-start anchored is b a i start = start.0
  only-start (anchored_to p) is b a i start = start.0

  anchored-refused : (anchor : Anchor) → is_anchored anchor ≡ true → (b a : ℕ) (m : Match) → next_match (anywhere r) text anchor b a ≡ Some m
      → is_permitted true text m.start ≡ false → next_match (between_characters r) text anchor b a ≡ None
  anchored-refused anchor is b a m e refused =
      elim (tells (next_match (between_characters r) text anchor b a)) [
        | inl none ↦ none
        | inr some ↦
            let n = some.0 in
            let start = (next-is (between_characters r) text anchor b a n some.1).start in
            let same : m.start ≡ n.start =
            only-start anchor is b a m.start (next-is (anywhere r) text anchor b a m e).start.0 ∙ sym (only-start anchor is b a n.start start.0) in
            absurd (true≢false (sym start.1 ∙ ap (is_permitted true text) (sym same) ∙ refused))
      ]

  -- and any other goes on behind its start
  module _ (b a : ℕ) (m : Match) (e : next_match (anywhere r) text free b a ≡ Some m) (refused : is_permitted true text m.start ≡ false) where
    -- a start with a run lies behind it
    behind : (i p : ℕ) (t : Trace) → MayStart (between_characters r) text free b a i → HasFirstRun (between_characters r) text free b i p t → m.start < i
    behind i p t may has =
        let low = (next-is (anywhere r) text free b a m e).least_start i p t (may-anywhere r text free b a i may) (run-anywhere r text free b i p t has) in
        by_test (nat_lt m.start i)
        (λ lt. grind (arith, nat_tests))
        (λ ge. let same : i ≡ m.start = grind (arith, nat_tests) in absurd (true≢false (sym may.1 ∙ ap (is_permitted true text) same ∙ refused)))

    pub free-refused : next_match (between_characters r) text free b a ≡ next_match (between_characters r) text free b (m.start + 1)
    free-refused =
        let from = (next-within (anywhere r) text free b a m e).0 in
        elim (tells (next_match (between_characters r) text free b a)) [
          | inr some ↦
              let n = some.0 in
              let is = next-is (between_characters r) text free b a n some.1 in
              let later = behind n.start n.trace.pattern n.trace is.start is.run in
              let high = is.start.0.1 in
              some.1 ∙ sym (is-next (between_characters r) text free b (m.start + 1) n (record {
                start = ((omega arith, high), is.start.1);
                run = is.run;
                least_start = λ i p t may has. (let low = may.0.0 in is.least_start i p t ((omega arith, may.0.1), may.1) has);
                least_pattern = is.least_pattern;
              }))
          | inl none ↦
              elim (tells (next_match (between_characters r) text free b (m.start + 1))) [
                | inl none' ↦ none ∙ sym none'
                | inr some ↦
                    let n = some.0 in
                    let is = next-is (between_characters r) text free b (m.start + 1) n some.1 in
                    let low = is.start.0.0 in
                    let start : MayStart (between_characters r) text free b a n.start = ((omega arith, is.start.0.1), is.start.1) in
                    absurd (next-none (between_characters r) text free b a none n.start n.trace.pattern n.trace start is.run)
              ]
        ]

  -- What the patterns mean is UTF-8.
  module _ (utf8 : MeansUtf8 r text) (anchor : Anchor) (b a : ℕ) (m : Match) (e : next_match (anywhere r) text anchor b a ≡ Some m) where
    -- a match that is not empty starts and ends between characters
    match-permitted : m.start < m.trace.end → (is_permitted true text m.start ≡ true) × (is_permitted true text m.trace.end ≡ true)
    match-permitted lt =
        let run = (next-is (anywhere r) text anchor b a m e).run in
        let p = m.trace.pattern in
        let h = run.1.0 in
        let means = first-means (anywhere r) text b p h (utf8.ordered p h run.1.1) m.start m.trace run.1.2 in
        part-permitted text utf8.whole m.start m.trace.end lt (utf8.parts p h run.1.1 m.start m.trace.end lt means)

    -- one that ends inside a character is empty
    pub match-empty : is_permitted true text m.trace.end ≡ false → m.start ≡ m.trace.end
    match-empty refused =
        let up = (next-within (anywhere r) text anchor b a m e).1 in
        by_test (nat_lt m.start m.trace.end)
        (λ lt. absurd (true≢false (sym (match-permitted (grind (arith, nat_tests))).1 ∙ refused)))
        (λ ge. grind (arith, nat_tests))

    start-refused : is_permitted true text m.trace.end ≡ false → is_permitted true text m.start ≡ false
    start-refused refused = ap (is_permitted true text) (match-empty refused) ∙ refused

    -- one that ends between characters is the next match with the rule
    pub between-permitted : is_permitted true text m.trace.end ≡ true → next_match (between_characters r) text anchor b a ≡ Some m
    between-permitted permitted =
        let up = (next-within (anywhere r) text anchor b a m e).1 in
        between-some r text anchor b a m e
        (by_test (nat_lt m.start m.trace.end)
        (λ lt. (match-permitted (grind (arith, nat_tests))).0)
        (λ ge. let same : m.start ≡ m.trace.end = grind (arith, nat_tests) in ap (is_permitted true text) same ∙ permitted))

    -- one that does not gives way
    pub between-anchored : is_anchored anchor ≡ true → is_permitted true text m.trace.end ≡ false → next_match (between_characters r) text anchor b a ≡ None
    between-anchored is refused = anchored-refused anchor is b a m e (start-refused refused)

  pub between-free : MeansUtf8 r text → (b a : ℕ) (m : Match) → next_match (anywhere r) text free b a ≡ Some m → is_permitted true text m.trace.end ≡ false
      → next_match (between_characters r) text free b a ≡ next_match (between_characters r) text free b (m.start + 1)
  between-free utf8 b a m e refused = free-refused b a m e (start-refused utf8 free b a m e refused)
