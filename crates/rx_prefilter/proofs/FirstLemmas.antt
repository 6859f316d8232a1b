-- What a search finds is the first span.
use Rattle.std.proofs.Common.{◌≡◌, ℕ, zero, suc, ◌+◌, ◌-◌, ◌<◌, ◌≤◌, List, [], ◌∷◌, Option, None, Some, MatchOption, length, refl, sym, ap, subst, ◌∙◌, arith, ⊎_elim}
use Rattle.std.specs.Option.{option_or}
use Rattle.std.proofs.lemmas.Bool.{cases_Bool, cases_eq}
use Rattle.std.proofs.lemmas.Option.{none-some}
use Rattle.memchr.specs.Find.{occurs_at}
use Rattle.rx_search.specs.declared.span.Span.{Span}
use Rattle.rx_prefilter.specs.Needles.{span_at, span_among, first_span, NoneLies, LiesAt, IsFirstSpan}
use Rattle.rx_prefilter.proofs.NeedleLemmas.{span_at-nil, span_at-here, span_at-next}

start_of : Option Span → ℕ
start_of None = 0
start_of (Some span) = span.start

module _ (text : List ℕ) (at : ℕ) where
  span_at-starts : (needles : List (List ℕ)) (span : Span) → span_at needles text at ≡ Some span → span.start ≡ at
  unfolding start_of
  span_at-starts [] span e = absurd (none-some span (sym (span_at-nil text at) ∙ e))
  span_at-starts (needle ∷ needles) span e = ⊎_elim
      (λ yes_is. sym (ap start_of (sym (span_at-here text at needle needles yes_is) ∙ e)))
      (λ no_is. span_at-starts needles span (sym (span_at-next text at needle needles no_is) ∙ e))
      (cases_Bool (occurs_at text needle at))

module _ (needles : List (List ℕ)) (text : List ℕ) where
  abbrev IsFirstAmong : ℕ → ℕ → Option Span → Type 0
  IsFirstAmong n from r = MatchOption r
      ((at : ℕ) → from ≤ at → at < from + n → NoneLies needles text at)
      (λ span. (from ≤ span.start) × ((at : ℕ) → from ≤ at → at + 1 ≤ span.start → NoneLies needles text at) × LiesAt needles text span)

  later : (n from : ℕ) → NoneLies needles text from → (r : Option Span) → IsFirstAmong n (from + 1) r → IsFirstAmong (suc n) from r
  later n from none None rest = λ at a b. ⊎_elim
      (λ (here : at ≡ from). rw here none)
      (λ (other : at ≡ from → ⊥). rest at (omega (arith, other)) (omega arith))
      (cases_eq at from)
  later n from none (Some span) rest = (
    (let a = rest.0 in omega (arith, a)),
    (λ at a b. ⊎_elim (λ (here : at ≡ from). rw here none) (λ (other : at ≡ from → ⊥). rest.1 at (omega (arith, other)) b) (cases_eq at from)),
    rest.2,
  )

  span_among_first : (n from : ℕ) → IsFirstAmong n from (span_among needles text from n)
  unfolding span_among
  span_among_first zero from = λ at a b. absurd (omega arith)
  span_among_first (suc n) from = (elim (span_at needles text from) as (λ o. span_at needles text from ≡ o
      → IsFirstAmong (suc n) from (option_or o (span_among needles text (from + 1) n))) [
        | None ↦ λ e. later n from e (span_among needles text (from + 1) n) (span_among_first n (from + 1))
        | Some span ↦ λ e. let start = span_at-starts text from needles span e in (
          omega (arith, start),
          (λ at a b. absurd (omega (arith, start))),
          subst (λ k. span_at needles text k ≡ Some span) (sym start) e,
        )
      ]) refl

  widen : (from n : ℕ) → ((at : ℕ) → from ≤ at → at ≤ length text → at < from + n) → (r : Option Span) → IsFirstAmong n from r → IsFirstSpan needles text from r
  widen from n fits None none = λ at a b. none at a (fits at a b)
  widen from n fits (Some span) found = found

  pub first_span-is_first : (from : ℕ) → IsFirstSpan needles text from (first_span needles text from)
  first_span-is_first from = widen from (length text + 1 - from) (λ at a b. omega arith) (first_span needles text from)
      (span_among_first (length text + 1 - from) from)
