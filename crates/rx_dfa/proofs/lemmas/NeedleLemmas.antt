-- Where the needles of a prefilter lie in a span.
use Rattle.std.proofs.Common.{◌≡◌, ℕ, ◌+◌, ◌≤◌, List, [], ◌∷◌, length, take, drop, sym, ◌∙◌, ap, subst, inl, inr, arith, true≢false, get_or, get_or-take, get_or-drop, length-take-le}
use Rattle.std.proofs.lemmas.List.{get_or_append_left}
use Rattle.std.specs.Prelude.{true, Some, None, is_some}
use Rattle.memchr.specs.Find.{OccursAt, occurs_at}
use Rattle.memchr.proofs.lemmas.MatchLemmas.{occurs_at-true, OccursAt-true}
use Rattle.rx_model.specs.Text.{stands_at}
use Rattle.rx_model.proofs.lemmas.runs.RunLemmas.{by_test}
use Rattle.rx_model.proofs.lemmas.runs.FirstLemmas.{none-is-some}
use Rattle.rx_model.proofs.lemmas.meaning.CharLemmas.{stands_at_parts}
use Rattle.rx_search.specs.Input.{InputValue}
use Rattle.rx_search.specs.Needles.{OneBegins}
use Rattle.rx_search.specs.declared.span.Span.{Span}
use Rattle.rx_prefilter.specs.Needles.{span_at, first_span, find_in, IsFirstSpan}
use Rattle.rx_prefilter.proofs.FirstLemmas.{first_span-is_first}
use Rattle.rx_prefilter.proofs.NeedleLemmas.{span_at-nil, span_at-here, span_at-next}
use Rattle.rx_dfa.specs.Candidates.{HasNoneBefore}

module _ (text : List ℕ) (end i : ℕ) (within : end ≤ length text) where
  occurs : (needle : List ℕ) → stands_at text i needle ≡ true → i + length needle ≤ end → OccursAt (take end text) needle i
  occurs needle stands le =
      let long : length (take end text) ≡ end = length-take-le end text within in
      record {
        fits = omega arith;
        reads = λ j lt.
            get_or-take end text (i + j) 0 (omega arith)
            ∙ sym (get_or-drop i text j 0)
            ∙ ap (λ rest. get_or rest j 0) (stands_at_parts text i needle stands)
            ∙ get_or_append_left needle (drop (i + length needle) text) 0 j lt;
      }

  -- where a needle begins what is left of the span, a search by the needles sees it
  one-lies : (needles : List (List ℕ)) → OneBegins text i end needles → is_some (span_at needles (take end text) i) ≡ true
  one-lies [] x = elim x [ ]
  one-lies (needle ∷ needles) (inl here) =
      ap is_some (span_at-here (take end text) i needle needles (occurs_at-true (take end text) needle i (occurs needle here.0 here.1)))
  one-lies (needle ∷ needles) (inr later) =
      by_test (occurs_at (take end text) needle i)
      (λ e. ap is_some (span_at-here (take end text) i needle needles e))
      (λ e. ap is_some (span_at-next (take end text) i needle needles e) ∙ one-lies needles later)

-- a needle that lies at a place begins in the text
span_at-within : (needles : List (List ℕ)) (text : List ℕ) (i : ℕ) (span : Span) → span_at needles text i ≡ Some span → i ≤ length text
span_at-within [] text i span h = none-is-some (sym (span_at-nil text i) ∙ h)
span_at-within (needle ∷ needles) text i span h =
    by_test (occurs_at text needle i)
    (λ e. let o = (OccursAt-true text needle i e).fits in omega arith)
    (λ e. span_at-within needles text i span (sym (span_at-next text i needle needles e) ∙ h))

-- What a search of the span by the needles finds.
module _ (needles : List (List ℕ)) (v : InputValue) (spanned : v.end ≤ length v.haystack) (part : Span) (start_is : part.start ≡ v.start)
    (end_is : part.end ≡ v.end) where
  abbrev cut : List ℕ
  cut = take v.end v.haystack

  first-is : IsFirstSpan needles cut v.start (find_in needles v.haystack part)
  first-is =
      subst (λ r. IsFirstSpan needles cut v.start r) (λ j. first_span needles (take (sym end_is j) v.haystack) (sym start_is j))
      (first_span-is_first needles cut v.start)

  none-lies : (i : ℕ) → span_at needles cut i ≡ None → OneBegins v.haystack i v.end needles → ⊥
  none-lies i none begins = true≢false (sym (one-lies v.haystack v.end i spanned needles begins) ∙ ap is_some none)

  pub candidate-some : (found : Span) → find_in needles v.haystack part ≡ Some found
      → (v.start ≤ found.start) × (found.start ≤ v.end) × HasNoneBefore needles v v.start found.start
  candidate-some found is =
      let first = subst (λ r. IsFirstSpan needles cut v.start r) is first-is in
      let inside = span_at-within needles cut found.start found first.2 in
      let long : length cut ≡ v.end = length-take-le v.end v.haystack spanned in
      (first.0, omega arith, λ i low high begins. none-lies i (first.1 i low (omega arith)) begins)

  pub candidate-none : find_in needles v.haystack part ≡ None → HasNoneBefore needles v v.start (v.end + 1)
  candidate-none is =
      let first = subst (λ r. IsFirstSpan needles cut v.start r) is first-is in
      let long : length cut ≡ v.end = length-take-le v.end v.haystack spanned in
      λ i low high begins. none-lies i (first i low (omega arith)) begins
