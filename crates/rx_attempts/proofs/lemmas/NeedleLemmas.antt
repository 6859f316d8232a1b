-- Candidates, as a search for needles has them and as the order of candidates does.
use Rattle.std.proofs.Common.{◌≡◌, ℕ, zero, suc, ◌+◌, ◌-◌, ◌<◌, ◌≤◌, List, [], ◌∷◌, ◌++◌, length, take, drop, refl, sym, ◌∙◌, ap, arith, get_or, get_or-take, get_or-drop, length-take-le, length-drop}
use Rattle.std.proofs.lemmas.Grind.{same_number_lists}
use Rattle.std.proofs.lemmas.List.{get_or_append_left, take-append-drop}
use Rattle.std.proofs.lemmas.List.Elements.{All-contains}
use Rattle.std.specs.Prelude.{true, Option, Some, None, Contains}
use Rattle.memchr.specs.Find.{OccursAt, occurs_at}
use Rattle.memchr.proofs.lemmas.MatchLemmas.{occurs_at-true, OccursAt-true}
use Rattle.rx_model.specs.Text.{stands_at}
use Rattle.rx_model.proofs.lemmas.runs.RunLemmas.{by_test}
use Rattle.rx_model.proofs.lemmas.runs.FirstLemmas.{none-is-some, some-is}
use Rattle.rx_model.proofs.lemmas.meaning.CharLemmas.{stands_at_parts, stands_at_from}
use Rattle.rx_search.specs.Input.{InputValue}
use Rattle.rx_search.specs.declared.span.Span.{Span}
use Rattle.rx_prefilter.specs.Needles.{span_at, NoneLies, IsFirstSpan}
use Rattle.rx_prefilter.proofs.NeedleLemmas.{span_at-nil, span_at-here, span_at-next}
use Rattle.rx_order.specs.Order.{IsOccurrence}
use Rattle.rx_attempts.specs.Candidates.{AreNotEmpty, IsCandidate, IsTaken, IsNextCandidate}

-- what is the span of a needle
abbrev span_to : ℕ → ℕ → Span
span_to i e = record { start = i; end = e }

module _ (text : List ℕ) (end i : ℕ) (within : end ≤ length text) where
  occurs : (needle : List ℕ) → stands_at text i needle ≡ true → i + length needle ≤ end → OccursAt (take end text) needle i
  occurs needle stands le =
      let long : length (take end text) ≡ end = length-take-le end text within in
      record {
        fits = omega arith;
        reads = λ j lt.
            get_or-take end text (i + j) 0 (omega arith)
            ∙ sym (get_or-drop i text j 0)
            ∙ ap (λ rest. get_or rest j 0) (stands_at_parts text i needle stands)
            ∙ get_or_append_left needle (drop (i + length needle) text) 0 j lt;
      }

  ends : (needle : List ℕ) → OccursAt (take end text) needle i → i + length needle ≤ end
  ends needle o = let long : length (take end text) ≡ end = length-take-le end text within in let fits = o.fits in omega arith

  stands : (needle : List ℕ) → OccursAt (take end text) needle i → stands_at text i needle ≡ true
  stands needle o =
      let n = length needle in
      let fits = ends needle o in
      let rest : length (drop i text) ≡ length text - i = length-drop i text in
      let long : length (take n (drop i text)) ≡ n = length-take-le n (drop i text) (omega arith) in
      let same : take n (drop i text) ≡ needle = same_number_lists (take n (drop i text)) needle long (λ k lt.
      let below : k < n = omega arith in
      let inside : i + k < end = omega arith in
      get_or-take n (drop i text) k 0 below ∙ get_or-drop i text k 0 ∙ sym (get_or-take end text (i + k) 0 inside) ∙ o.reads k below) in
      stands_at_from text i needle (drop n (drop i text)) (sym (take-append-drop n (drop i text)) ∙ ap (λ xs. xs ++ drop n (drop i text)) same)

  -- a needle of the list that lies there, and its span
  abbrev HasNeedle : List (List ℕ) → Span → Type 0
  HasNeedle needles s =
      (needle : List ℕ) × Contains needles needle × (stands_at text i needle ≡ true) × (i + length needle ≤ end) × (s.start ≡ i)
      × (s.end ≡ i + length needle)

  in-rest : (x : List ℕ) (needles : List (List ℕ)) (s : Span) → HasNeedle needles s → HasNeedle (x ∷ needles) s
  in-rest x needles s h = let lt = h.1.1 in (h.0, (suc h.1.0, omega arith, h.1.2), h.2, h.3, h.4, h.5)

  span_at-some : (needles : List (List ℕ)) (s : Span) → span_at needles (take end text) i ≡ Some s → HasNeedle needles s
  span_at-some [] s h = none-is-some (sym (span_at-nil (take end text) i) ∙ h)
  span_at-some (needle ∷ needles) s h =
      by_test (occurs_at (take end text) needle i)
      (λ e.
      let o = OccursAt-true (take end text) needle i e in
      let same : span_to i (i + length needle) ≡ s = some-is (sym (span_at-here (take end text) i needle needles e) ∙ h) in (
        needle,
        (0, omega arith, refl),
        stands needle o,
        ends needle o,
        sym (ap (λ (x : Span). x.start) same),
        sym (ap (λ (x : Span). x.end) same),
      ))
      (λ e. in-rest needle needles s (span_at-some needles s (sym (span_at-next (take end text) i needle needles e) ∙ h)))

  span_at-none : (needles : List (List ℕ)) → span_at needles (take end text) i ≡ None → (needle : List ℕ) (k : ℕ) → k < length needles
      → get_or needles k needle ≡ needle → stands_at text i needle ≡ true → i + length needle ≤ end → ⊥
  span_at-none [] none needle k lt is stand le = omega arith
  span_at-none (x ∷ needles) none needle zero lt is stand le =
      let o = occurs_at-true (take end text) needle i (occurs needle stand le) in
      let here : occurs_at (take end text) x i ≡ true = ap (λ n. occurs_at (take end text) n i) is ∙ o in
      none-is-some (sym none ∙ span_at-here (take end text) i x needles here)
  span_at-none (x ∷ needles) none needle (suc k) lt is stand le =
      by_test (occurs_at (take end text) x i)
      (λ e. none-is-some (sym none ∙ span_at-here (take end text) i x needles e))
      (λ e. span_at-none needles (sym (span_at-next (take end text) i x needles e) ∙ none) needle k (omega arith) is stand le)

module _ (needles : List (List ℕ)) (v : InputValue) (within : v.end ≤ length v.haystack) where
  -- a needle lies where one is taken
  pub taken-is : (s : Span) → IsTaken needles v s
      → (needle : List ℕ) × Contains needles needle × IsOccurrence v.haystack v.start v.end needle s.start × (s.end ≡ s.start + length needle)
  taken-is s taken =
      let h = span_at-some v.haystack v.end s.start within needles s taken.lies in
      (h.0, h.1, (taken.inside, h.2, h.3), h.5)

  pub taken-candidate : (s : Span) → IsTaken needles v s → IsCandidate needles v s.start
  taken-candidate s taken = let h = taken-is s taken in (h.0, h.1, h.2)

  -- it ends later, in the span
  pub taken-long : AreNotEmpty needles → (s : Span) → IsTaken needles v s → (s.start < s.end) × (s.end ≤ v.end)
  taken-long some s taken =
      let h = taken-is s taken in
      let ends = h.3 in
      let fits = h.2.2 in
      let long : 0 < length h.0 = All-contains (λ needle. 0 < length needle) needles h.0 some h.1 in
      (omega arith, omega arith)

  never : (place : ℕ) → NoneLies needles (take v.end v.haystack) place → IsCandidate needles v place → ⊥
  never place none c = span_at-none v.haystack v.end place within needles none c.0 c.1.0 c.1.1 c.1.2 c.2.1 c.2.2

  -- what a search for the needles finds is the next candidate
  pub next-is : (from : ℕ) → v.start ≤ from → (next : Option Span) → IsFirstSpan needles (take v.end v.haystack) from next → IsNextCandidate needles v from next
  next-is from low None h = λ place le c.
      let long : length (take v.end v.haystack) ≡ v.end = length-take-le v.end v.haystack within in
      let fits = c.2.2 in
      never place (h place le (omega arith)) c
  next-is from low (Some s) h =
      let at = h.0 in
      (record { inside = omega arith; lies = h.2 }, h.0, λ place le lt c. never place (h.1 place le (omega arith)) c)
