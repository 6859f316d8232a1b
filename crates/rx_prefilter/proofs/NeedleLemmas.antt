-- Where needles lie, needle by needle and place by place.
use Rattle.std.proofs.Common.{◌≡◌, ℕ, zero, suc, ◌+◌, ◌-◌, ◌<◌, ◌≤◌, true, false, List, [], ◌∷◌, Option, None, Some, length, refl, ap, subst, ◌∙◌, arith, ⊎_elim}
use Rattle.std.specs.Option.{option_or, option_map}
use Rattle.std.proofs.lemmas.Bool.{cases_lt, cond-true, cond-false}
use Rattle.memchr.specs.Find.{occurs_at, IsFirst}
use Rattle.rx_search.specs.declared.span.Span.{Span}
use Rattle.rx_prefilter.specs.Needles.{needle_span, span_at, span_among, first_span, NoneLies}

-- needle by needle
module _ (text : List ℕ) (at : ℕ) where
  pub span_at-nil : span_at [] text at ≡ None
  unfolding span_at
  span_at-nil = refl

  pub span_at-here : (needle : List ℕ) (needles : List (List ℕ)) → occurs_at text needle at ≡ true
      → span_at (needle ∷ needles) text at ≡ Some (needle_span needle at)
  unfolding span_at
  span_at-here needle needles e = cond-true _ _ _ e

  pub span_at-next : (needle : List ℕ) (needles : List (List ℕ)) → occurs_at text needle at ≡ false
      → span_at (needle ∷ needles) text at ≡ span_at needles text at
  unfolding span_at
  span_at-next needle needles e = cond-false _ _ _ e

-- place by place
module _ (needles : List (List ℕ)) (text : List ℕ) where
  pub span_among-here : (from n : ℕ) (span : Span) → span_at needles text from ≡ Some span → span_among needles text from (suc n) ≡ Some span
  unfolding span_among
  span_among-here from n span e = ap (λ o. option_or o (span_among needles text (from + 1) n)) e

  pub span_among-next : (from n : ℕ) → span_at needles text from ≡ None → span_among needles text from (suc n) ≡ span_among needles text (from + 1) n
  unfolding span_among
  span_among-next from n e = ap (λ o. option_or o (span_among needles text (from + 1) n)) e

  pub span_among-zero : (from : ℕ) → span_among needles text from 0 ≡ None
  unfolding span_among
  span_among-zero from = refl

  -- the first n places, and then those after them
  pub span_among-split : (k from n : ℕ) → span_among needles text from (k + n) ≡ option_or (span_among needles text from k)
      (span_among needles text (from + k) n)
  unfolding span_among
  span_among-split zero from n =
      let e : 0 + n ≡ n = omega arith in let f : from + 0 ≡ from = omega arith in rw (e, f) refl
  span_among-split (suc k) from n =
      let e : suc k + n ≡ suc (k + n) = omega arith in
      let f : from + suc k ≡ from + 1 + k = omega arith in
      let later = span_among-split k (from + 1) n in
      rw (e, f)
      (elim (span_at needles text from) as (λ o. option_or o (span_among needles text (from + 1) (k + n)) ≡ option_or
      (option_or o (span_among needles text (from + 1) k)) (span_among needles text (from + 1 + k) n)) [
        | None ↦ later
        | Some s ↦ refl
      ])

  -- places at which no needle begins may be passed
  pub span_among-skip : (k from n : ℕ) → ((at : ℕ) → from ≤ at → at < from + k → NoneLies needles text at)
      → span_among needles text from (k + n) ≡ span_among needles text (from + k) n
  span_among-skip zero from n none = let e : 0 + n ≡ n = omega arith in let f : from + 0 ≡ from = omega arith in rw (e, f) refl
  span_among-skip (suc k) from n none =
      let e : suc k + n ≡ suc (k + n) = omega arith in
      let f : from + suc k ≡ from + 1 + k = omega arith in
      rw (e, f) (span_among-next from (k + n) (none from (omega arith) (omega arith))
      ∙ span_among-skip k (from + 1) n (λ at a b. none at (omega arith) (omega arith)))

  -- what is found from a place on, where no needle begins before a later one
  pub first_span-skip : (from to : ℕ) → from ≤ to → to ≤ length text + 1 → ((at : ℕ) → from ≤ at → at < to → NoneLies needles text at)
      → first_span needles text from ≡ first_span needles text to
  first_span-skip from to le within none =
      let k : length text + 1 - from ≡ (to - from) + (length text + 1 - to) = omega arith in
      let f : from + (to - from) ≡ to = omega arith in
      ap (span_among needles text from) k ∙ span_among-skip (to - from) from (length text + 1 - to) (λ at a b. none at a (omega arith))
      ∙ ap (λ at. span_among needles text at (length text + 1 - to)) f

  pub first_span-here : (from : ℕ) (span : Span) → from ≤ length text → span_at needles text from ≡ Some span → first_span needles text from ≡ Some span
  first_span-here from span le e =
      let k : length text + 1 - from ≡ suc (length text - from) = omega arith in
      ap (span_among needles text from) k ∙ span_among-here from (length text - from) span e

  pub first_span-next : (at : ℕ) → at ≤ length text → NoneLies needles text at → first_span needles text at ≡ first_span needles text (at + 1)
  first_span-next at le none =
      first_span-skip at (at + 1) (omega arith) (omega arith) (λ k a b. let e : at ≡ k = omega arith in subst (NoneLies needles text) e none)

  -- a window of places that holds the first needle, or none
  pub first_span-window_found : (from k : ℕ) (span : Span) → from + k ≤ length text + 1 → span_among needles text from k ≡ Some span
      → first_span needles text from ≡ Some span
  first_span-window_found from k span le e =
      let n : length text + 1 - from ≡ k + (length text + 1 - (from + k)) = omega arith in
      ap (span_among needles text from) n ∙ span_among-split k from (length text + 1 - (from + k))
      ∙ ap (λ o. option_or o (span_among needles text (from + k) (length text + 1 - (from + k)))) e

  pub first_span-window_next : (from k : ℕ) → from + k ≤ length text + 1 → span_among needles text from k ≡ None
      → first_span needles text from ≡ first_span needles text (from + k)
  first_span-window_next from k le e =
      let n : length text + 1 - from ≡ k + (length text + 1 - (from + k)) = omega arith in
      ap (span_among needles text from) n ∙ span_among-split k from (length text + 1 - (from + k))
      ∙ ap (λ o. option_or o (span_among needles text (from + k) (length text + 1 - (from + k)))) e

  span_among-one : (from : ℕ) → span_among needles text from 1 ≡ span_at needles text from
  unfolding span_among
  span_among-one from = elim (span_at needles text from) as (λ o. option_or o None ≡ o) [ None ↦ refl | Some s ↦ refl ]

  pub first_span-end : (at : ℕ) → at ≡ length text → first_span needles text at ≡ span_at needles text at
  first_span-end at e = let one : length text + 1 - at ≡ 1 = omega arith in ap (span_among needles text at) one ∙ span_among-one at

  pub first_span-none : (from : ℕ) → ((at : ℕ) → from ≤ at → at ≤ length text → NoneLies needles text at) → first_span needles text from ≡ None
  first_span-none from none =
      ⊎_elim
      (λ far. let e : length text + 1 - from ≡ 0 = omega arith in ap (span_among needles text from) e ∙ span_among-zero from)
      (λ near. let e : length text + 1 - (length text + 1) ≡ 0 = omega arith in
      first_span-skip from (length text + 1) near (omega arith) (λ at a b. none at a (omega arith))
      ∙ ap (span_among needles text (length text + 1)) e ∙ span_among-zero (length text + 1))
      (cases_lt (length text + 1) from)

  -- The first place that passes a test, counted from a place on, where the test says which needle begins there.
  pub first_span-first : (from bound : ℕ) (P : ℕ → Type 0) (span : ℕ → Span) → from ≤ length text
      → ((k : ℕ) → k < bound → from + k ≤ length text)
      → ((k : ℕ) → bound ≤ k → NoneLies needles text (from + k))
      → ((k : ℕ) → ¬ P k → NoneLies needles text (from + k))
      → ((k : ℕ) → k < bound → P k → span_at needles text (from + k) ≡ Some (span k))
      → (r : Option ℕ) → IsFirst P 0 bound r → first_span needles text from ≡ option_map span r
  first_span-first from bound P span le within past fails passes None nowhere =
      first_span-none from (λ at a b.
      let e : from + (at - from) ≡ at = omega arith in
      subst (NoneLies needles text) e (⊎_elim
      (λ below. fails (at - from) (nowhere (at - from) (omega arith) below))
      (λ above. past (at - from) above)
      (cases_lt (at - from) bound)))
  first_span-first from bound P span le within past fails passes (Some k) found =
      let high = found.0.high in
      let inside = within k high in
      first_span-skip from (from + k) (omega arith) (omega arith) (λ at a b.
      let e : from + (at - from) ≡ at = omega arith in
      subst (NoneLies needles text) e (fails (at - from) (found.0.before (at - from) (omega arith) (omega arith))))
      ∙ first_span-here (from + k) (span k) inside (passes k high found.1)
