-- The slots of a match's span, which are known of the match.
use Rattle.std.proofs.Common.{◌≡◌, ℕ, ◌+◌, ◌*◌, ◌≤◌, ◌<◌, List, length, refl, sym, ap, ◌∙◌, get_or, inl, inr, arith}
use Rattle.std.proofs.lemmas.Bool.{eqb-true, eqb-false}
use Rattle.std.specs.Prelude.{true, false, Option, Some, None, option_map, IfSome, ◌==◌}
use Rattle.rx_model.specs.Search.{Patterns, slot_of, has_explicit_groups, Anchor, Match, slot_value, told_of}
use Rattle.rx_model.specs.Matches.{IsMatch}
use Rattle.rx_model.proofs.lemmas.runs.RunLemmas.{by_test}
use Rattle.rx_model.proofs.lemmas.runs.FirstLemmas.{some-is, none-is-some}
use Rattle.rx_model.proofs.lemmas.matches.WithinLemmas.{next-run, match-slots, match-others}
use Rattle.rx_search.specs.Answer.{IsAnswer, AreSlotsOfAnswer}
use Rattle.rx_search.specs.Input.{InputValue, next_in}
use Rattle.rx_search.specs.Matches.{MatchValue, match_value}
use Rattle.rx_search.specs.Promise.{Premises, Promised}
use Rattle.rx_search.specs.Told.{tells, IsMatchWith, HasSlots}
use Rattle.rx_search.specs.declared.anchored.MatchKind.{MatchKind}
use Rattle.rx_strategy.specs.Span.{span_slot}
use Rattle.rx_strategy.proofs.AnswerLemmas.{told_of-whole}

-- the slots of explicit groups lie behind those of all spans
explicit-above : (r : Patterns) (p g first : ℕ) → slot_of r p g ≡ Some first → 2 * length r.expressions ≤ first
explicit-above r p g first h =
    by_test (has_explicit_groups r.which_captures)
    (λ e. let same = some-is (rw e at h) in omega arith)
    (λ e. none-is-some (rw e at h))

module _ (r : Patterns) (text : List ℕ) (anchor : Anchor) (b a : ℕ) (m : Match) (is : IsMatch r text anchor b a m) where
  abbrev p : ℕ
  p = m.trace.pattern

  -- among the slots of spans, those of other patterns are empty
  others-empty : (k : ℕ) → k < 2 * length r.expressions → (k == 2 * p) ≡ false → (k == 2 * p + 1) ≡ false → slot_value m k ≡ None
  others-empty k below first second =
      match-others r text anchor b a m is is.expression is.is_there k (λ own. elim own [
        | inl opens ↦ eqb-false _ _ first opens
        | inr other ↦ elim other [
          | inl closes ↦ eqb-false _ _ second closes
          | inr explicit ↦ elim explicit.4 [
            | inl opens ↦ (let above = explicit-above r p explicit.0 explicit.1 explicit.3 in omega arith)
            | inr closes ↦ (let above = explicit-above r p explicit.0 explicit.1 explicit.3 in omega arith)
          ]
        ]
      ])

  -- a match leaves its span in the slots of spans
  pub span-left : (k : ℕ) → k < 2 * length r.expressions → slot_value m k ≡ span_slot (Some (match_value m)) k
  span-left k below =
      let own = match-slots r text anchor b a m is in
      by_test (k == 2 * p)
      (λ opens. rw opens (ap (slot_value m) (eqb-true _ _ opens) ∙ own.1))
      (λ not_opens. by_test (k == 2 * p + 1)
      (λ closes. rw (not_opens, closes) (ap (slot_value m) (eqb-true _ _ closes) ∙ own.2))
      (λ not_closes. rw (not_opens, not_closes) (others-empty k below not_opens not_closes)))

module _ (IsFor : Patterns → Type 0) (needles : Option (List (List ℕ))) (kind : MatchKind) (v : InputValue) (found : Option MatchValue)
    (slots : List (Option ℕ)) (n : ℕ) (answers : IsAnswer IsFor needles kind v match_value found)
    (patterns : (r : Patterns) → IsFor r → n ≡ length r.expressions) (told : (r : Patterns) → IsFor r → tells r.which_captures ≡ true)
    (few : length slots ≤ 2 * n) (left : (k : ℕ) → k < length slots → get_or slots k None ≡ span_slot found k) where
  -- the slots are those of a match with this span
  of-match : (r : Patterns) → IsFor r → (m : Match) → IsMatch r v.haystack v.anchor v.end v.start m → found ≡ Some (match_value m) → HasSlots slots m
  of-match r of m is same k below =
      let count = patterns r of in
      left k below ∙ ap (λ o. span_slot o k) same ∙ sym (span-left r v.haystack v.anchor v.end v.start m is k (omega arith))

  of-next : (r : Patterns) → Promised (IsFor r) needles kind r v → (next : Option Match) → next_in r v ≡ next → IfSome next (HasSlots slots)
  of-next r promised None e = tt
  of-next r promised (Some m) e =
      of-match r promised.premises.is_for m (next-run r v.haystack v.anchor v.end v.start m e) (answers.value r promised ∙ ap (option_map match_value) e)

  of-found : (r : Patterns) → Premises (IsFor r) needles r v → (o : Option MatchValue) → found ≡ o
      → IfSome o (λ answer. IsMatchWith r v (λ m. answer ≡ match_value m))
      → IfSome o (λ answer. IsMatchWith r v (λ m. (answer ≡ match_value m) × HasSlots slots m))
  of-found r premises None e known = tt
  of-found r premises (Some answer) e known =
      let m = known.0 in
      let whole : told_of r.which_captures m ≡ m = told_of-whole r.which_captures (told r premises.is_for) m in
      let same : found ≡ Some (match_value m) = e ∙ ap Some (known.2 ∙ ap match_value whole) in
      (m, known.1, (known.2, λ k below. of-match r premises.is_for m known.1 same k below ∙ ap (λ x. slot_value x k) (sym whole)))

  pub span-slots : AreSlotsOfAnswer IsFor needles kind v match_value slots found
  span-slots = record {
    value = λ r promised. of-next r promised (next_in r v) refl;
    is_match = λ r premises. of-found r premises found refl (answers.is_match r premises);
  }
