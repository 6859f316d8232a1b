-- A search forwards from the start of the next match finds that match.
use Rattle.std.proofs.Common.{◌≡◌, ℕ, ◌≤◌, ◌<◌, [], ◌∷◌, refl, sym, ◌∙◌, ap, subst, arith, true≢false}
use Rattle.std.specs.Prelude.{true, false, Option, Some, None, option_map, is_some, slice_get}
use Rattle.rx_model.specs.Expression.{Expression, AreOrdered}
use Rattle.rx_model.specs.Meaning.{Means}
use Rattle.rx_model.specs.Search.{free, anchored_to, is_anchored, is_permitted, first, Match, Patterns, slot_of, next_match}
use Rattle.rx_model.specs.Matches.{IsMatch, IsSought}
use Rattle.rx_model.proofs.lemmas.runs.FirstLemmas.{some-is}
use Rattle.rx_model.proofs.lemmas.runs.RiseLemmas.{mapped-some}
use Rattle.rx_model.proofs.lemmas.matches.MatchLemmas.{next-is}
use Rattle.rx_model.proofs.lemmas.matches.WithinLemmas.{match-within, match-means, match-next}
use Rattle.rx_model.proofs.lemmas.meaning.CoverLemmas.{means-run}
use Rattle.rx_model.proofs.lemmas.meaning.EmptyLemmas.{means-rises}
use Rattle.rx_search.specs.Input.{InputValue, next_in}
use Rattle.rx_search.specs.Matches.{MatchValue, HalfMatchValue, match_value, half_match_value}
use Rattle.rx_search.specs.declared.anchored.MatchKind.{MatchKind}
use Rattle.rx_search.specs.declared.anchored.MatchKind.TheVariants.{LeftmostFirst}
use Rattle.rx_dfa.specs.Search.{IsAnswerFor}
use Rattle.rx_dfa.proofs.lemmas.WalkLemmas.{RunsTo}
use Rattle.rx_dfa.proofs.lemmas.AnswerLemmas.{half-told, match-told, start-in, run-match}
use Rattle.rx_order.specs.Order.{IsMatchStart}
use Rattle.rx_order.proofs.lemmas.NextLemmas.{none-next}
use Rattle.rx_attempts.specs.Inputs.{from_start}
use Rattle.rx_attempts.specs.Whole.{IsWhole}
use Rattle.rx_attempts.proofs.lemmas.StartLemmas.{only}

by_value : {A : Type 0} {P : Type 0} (o : Option A) → ((x : A) → o ≡ Some x → P) → (o ≡ None → P) → P
by_value None some none = none refl
by_value (Some x) some none = some x refl

module _ (r : Patterns) (h : Expression) (one : r.expressions ≡ h ∷ []) (ordered : AreOrdered h) (v : InputValue) (start : HalfMatchValue)
    (pattern : start.pattern ≡ 0) where
  there : slice_get r.expressions start.pattern ≡ Some h
  there = ap (λ hs. slice_get hs start.pattern) one ∙ ap (slice_get (h ∷ [])) pattern

  -- where a match begins, the search finds one
  pub finds : IsMatchStart r.terminator v.haystack v.end h start.offset → is_permitted r.utf8_empty v.haystack start.offset ≡ true
      → is_some (next_in r (from_start v start)) ≡ true
  finds m may =
      let up = means-rises r.terminator v.haystack h start.offset m.0 m.2 in
      let le = m.1 in
      let run = means-run r.terminator v.haystack m.0 (slot_of r start.pattern) start.pattern h ordered start.offset m.0 (omega arith) m.2 in
      let x : RunsTo r v.haystack m.0 start.pattern h start.offset = record { run = run.0; is = run.1; ends = run.2 } in
      let found = run-match r v.haystack (anchored_to start.pattern) v.end start.offset m.0 le start.pattern start.offset h there x (refl, omega arith) may refl in
      by_value (next_in r (from_start v start))
      (λ n e. ap is_some e)
      (λ none. absurd (match-next r v.haystack (anchored_to start.pattern) v.end start.offset found.0 found.1 none))

  -- What is found is a match from there.
  module _ (kind : MatchKind) (m : MatchValue) (whole : IsWhole kind r v start (Some m)) where
    abbrev end : HalfMatchValue
    end = whole.0

    abbrev answer : IsAnswerFor kind r (from_start v start) half_match_value (Some end)
    answer = whole.2

    abbrev x : Match
    x = answer.is_match.0

    is : IsMatch r v.haystack (anchored_to start.pattern) v.end start.offset x
    is = answer.is_match.1

    begins : x.start ≡ start.offset
    begins = is.start.0.0

    half-is : end ≡ half_match_value x
    half-is = answer.is_match.2 ∙ half-told r.which_captures x

    pub whole-starts : IsMatchStart r.terminator v.haystack v.end h start.offset
    whole-starts =
        let sought : x.trace.pattern ≡ start.pattern = is.sought in
        let is_there : slice_get r.expressions x.trace.pattern ≡ Some h = ap (slice_get r.expressions) sought ∙ there in
        let means = match-means r v.haystack (anchored_to start.pattern) v.end start.offset x is h is_there ordered in
        let within = match-within r v.haystack (anchored_to start.pattern) v.end start.offset x is in
        (x.trace.end, within.2, subst (λ i. Means r.terminator v.haystack h i x.trace.end) begins means)

    -- So it is the answer, where the next match starts there.
    module _ (is_free : v.anchor ≡ free) (low : v.start ≤ start.offset) (n : Match) (next : next_match r v.haystack free v.end v.start ≡ Some n)
        (starts : n.start ≡ start.offset) where
      next-here : next_in r v ≡ Some n
      next-here = ap (λ a. next_match r v.haystack a v.end v.start) is_free ∙ next

      -- the first run from there is that of the next match
      first-run : first r v.haystack v.end 0 h start.offset ≡ Some n.trace
      first-run =
          let run = (next-is r v.haystack free v.end v.start n next).run in
          let own = only h run.1.0 n.trace.pattern (ap (λ hs. slice_get hs n.trace.pattern) (sym one) ∙ run.1.1) in
          (λ k. first r v.haystack v.end (sym own.0 k) (own.1 k) (sym starts k)) ∙ run.1.2

      same-end : kind ≡ LeftmostFirst → v.earliest ≡ false → end ≡ half_match_value n
      same-end leftmost every =
          let k = mapped-some half_match_value (next_in r (from_start v start)) end (sym (answer.value leftmost every)) in
          let now = next-is r v.haystack (anchored_to start.pattern) v.end start.offset k.0 k.1 in
          let run = now.run in
          let own = only h run.1.0 k.0.trace.pattern (ap (λ hs. slice_get hs k.0.trace.pattern) (sym one) ∙ run.1.1) in
          let at : k.0.start ≡ start.offset = now.start.0.0 in
          let its : first r v.haystack v.end 0 h start.offset ≡ Some k.0.trace = (λ j. first r v.haystack v.end (sym own.0 j) (own.1 j) (sym at j)) ∙ run.1.2 in
          let trace : k.0.trace ≡ n.trace = some-is (sym its ∙ first-run) in
          sym k.2 ∙ (λ j. record { pattern = (trace j).pattern; offset = (trace j).end })

      free-match : IsMatch r v.haystack v.anchor v.end v.start x
      free-match =
          let within = match-within r v.haystack (anchored_to start.pattern) v.end start.offset x is in
          let from = within.0 in
          let mid = within.1 in
          let to = within.2 in
          record {
            start = (start-in v.anchor v.end v.start x.start (omega arith) (omega arith) (λ on. absurd (true≢false (sym on ∙ ap is_anchored is_free))), is.start.1);
            sought = subst (λ a. IsSought a x.trace.pattern) (sym is_free) tt;
            expression = is.expression;
            is_there = is.is_there;
            run = is.run;
            accepting = is.accepting;
            tells = is.tells;
          }

      pub whole-answer : IsAnswerFor kind r v match_value (Some m)
      whole-answer = record {
        value = λ leftmost every.
            let e = same-end leftmost every in
            ap Some (whole.1 ∙ (λ k. record { pattern = (e k).pattern; start = sym starts k; end = (e k).offset }))
            ∙ sym (ap (option_map match_value) next-here);
        exists = sym (ap is_some next-here);
        is_match = (
          x,
          free-match,
          whole.1 ∙ (λ k. record { pattern = (half-is k).pattern; start = sym begins k; end = (half-is k).offset }) ∙ sym (match-told r.which_captures x),
        );
      }

-- nothing is found where there is no match
pub nothing-answer : (kind : MatchKind) (r : Patterns) (v : InputValue) → v.anchor ≡ free → next_match r v.haystack free v.end v.start ≡ None
    → IsAnswerFor kind r v match_value None
nothing-answer kind r v is_free none =
    let e : next_in r v ≡ None = ap (λ a. next_match r v.haystack a v.end v.start) is_free ∙ none in
    record {
      value = λ leftmost every. sym (ap (option_map match_value) e);
      exists = sym (ap is_some e);
      is_match = tt;
    }

-- in a span that begins behind its end there is none
pub past-nothing : (kind : MatchKind) (r : Patterns) (h : Expression) → r.expressions ≡ h ∷ [] → AreOrdered h → (v : InputValue) → v.anchor ≡ free → v.end < v.start
    → IsAnswerFor kind r v match_value None
past-nothing kind r h one ordered v is_free past =
    nothing-answer kind r v is_free
    (none-next r h one ordered v.haystack v.end v.start
    (λ i low m. let up = means-rises r.terminator v.haystack h i m.0 m.2 in let le = m.1 in absurd (gone i m.0 low up le))
    (λ i low m. let up = means-rises r.terminator v.haystack h i m.0 m.2 in let le = m.1 in gone i m.0 low up le))
  where
    gone : (i j : ℕ) → v.start ≤ i → i ≤ j → j ≤ v.end → ⊥
    gone i j low up le = omega arith
