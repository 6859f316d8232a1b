-- Where a literal lies in a span, as a search for needles has it and as the literals of an expression do.
use Rattle.std.proofs.Common.{◌≡◌, ℕ, ◌+◌, ◌-◌, ◌<◌, ◌≤◌, List, [], ◌∷◌, ◌++◌, length, map, take, drop, refl, sym, ◌∙◌, ap, subst, arith, true≢false, get_or, get_or-take, get_or-drop, length-take-le, length-drop}
use Rattle.std.proofs.lemmas.Bool.{and_parts}
use Rattle.std.proofs.lemmas.Bool.Decides.{nat_tests}
use Rattle.std.proofs.lemmas.Grind.{same_number_lists}
use Rattle.std.proofs.lemmas.List.{get_or_append_left, take-append-drop}
use Rattle.std.specs.Prelude.{Bool, true, false, ◌||◌, ◌==◌, nat_le, Option, Some, None, option_map, IfSome}
use Rattle.std.specs.List.{list_any}
use Rattle.memchr.specs.Find.{OccursAt, occurs_at}
use Rattle.memchr.proofs.lemmas.MatchLemmas.{occurs_at-true, OccursAt-true}
use Rattle.rx_model.specs.Text.{stands_at}
use Rattle.rx_model.proofs.lemmas.runs.RunLemmas.{by_test}
use Rattle.rx_model.proofs.lemmas.runs.FirstLemmas.{none-is-some, some-is}
use Rattle.rx_model.proofs.lemmas.meaning.CharLemmas.{stands_at_parts, stands_at_from}
use Rattle.rx_search.specs.Input.{InputValue}
use Rattle.rx_search.specs.declared.span.Span.{Span}
use Rattle.rx_pre.specs.Found.{LiesWithin}
use Rattle.rx_literal.specs.First.{lies, first_there}
use Rattle.rx_literal.specs.Literals.{exact}
use Rattle.rx_prefilter.specs.Choices.{is_empty, choice_of, served}
use Rattle.rx_prefilter.specs.Needles.{span_at, find_in, prefix_in, IsFirstSpan}
use Rattle.rx_prefilter.proofs.FirstLemmas.{first_span-is_first}
use Rattle.rx_prefilter.proofs.NeedleLemmas.{span_at-nil, span_at-here, span_at-next}

-- the span from i to e
abbrev pub span_to : ℕ → ℕ → Span
span_to i e = record { start = i; end = e }

module _ (text : List ℕ) (end i : ℕ) (within : end ≤ length text) where
  occurs : (needle : List ℕ) → stands_at text i needle ≡ true → i + length needle ≤ end → OccursAt (take end text) needle i
  occurs needle stands le =
      let long : length (take end text) ≡ end = length-take-le end text within in
      record {
        fits = omega arith;
        reads = λ j lt.
            get_or-take end text (i + j) 0 (omega arith)
            ∙ sym (get_or-drop i text j 0)
            ∙ ap (λ rest. get_or rest j 0) (stands_at_parts text i needle stands)
            ∙ get_or_append_left needle (drop (i + length needle) text) 0 j lt;
      }

  ends : (needle : List ℕ) → OccursAt (take end text) needle i → i + length needle ≤ end
  ends needle o = let long : length (take end text) ≡ end = length-take-le end text within in let fits = o.fits in omega arith

  stands : (needle : List ℕ) → OccursAt (take end text) needle i → stands_at text i needle ≡ true
  stands needle o =
      let n = length needle in
      let fits = ends needle o in
      let rest : length (drop i text) ≡ length text - i = length-drop i text in
      let long : length (take n (drop i text)) ≡ n = length-take-le n (drop i text) (omega arith) in
      let same : take n (drop i text) ≡ needle = same_number_lists (take n (drop i text)) needle long (λ k lt.
      let below : k < n = omega arith in
      let inside : i + k < end = omega arith in
      get_or-take n (drop i text) k 0 below ∙ get_or-drop i text k 0 ∙ sym (get_or-take end text (i + k) 0 inside) ∙ o.reads k below) in
      stands_at_from text i needle (drop n (drop i text)) (sym (take-append-drop n (drop i text)) ∙ ap (λ xs. xs ++ drop n (drop i text)) same)

  lies-there : (needle : List ℕ) → occurs_at (take end text) needle i ≡ true → lies text end i (exact needle) ≡ true
  lies-there needle e =
      let o = OccursAt-true (take end text) needle i e in
      let stand = stands needle o in
      let le = ends needle o in
      let fits : nat_le (i + length needle) end ≡ true = grind (arith, nat_tests) in
      rw (stand, fits) refl

  lies-not : (needle : List ℕ) → occurs_at (take end text) needle i ≡ false → lies text end i (exact needle) ≡ false
  lies-not needle e =
      by_test (lies text end i (exact needle))
      (λ there.
      let both = and_parts (stands_at text i needle) (nat_le (i + length needle) end) there in
      let fits : i + length needle ≤ end = (let test = both.1 in grind (arith, nat_tests)) in
      absurd (true≢false (sym (occurs_at-true (take end text) needle i (occurs needle both.0 fits)) ∙ e)))
      (λ gone. gone)

  -- the first needle that lies there is the first literal that does
  pub span-there : (needles : List (List ℕ)) → span_at needles (take end text) i ≡ option_map (span_to i) (first_there text end i (map exact needles))
  span-there [] = span_at-nil (take end text) i
  span-there (needle ∷ needles) =
      by_test (occurs_at (take end text) needle i)
      (λ e. span_at-here (take end text) i needle needles e ∙ sym (here e))
      (λ e. span_at-next (take end text) i needle needles e ∙ span-there needles ∙ sym (next e))
    where
      here : occurs_at (take end text) needle i ≡ true
          → option_map (span_to i) (first_there text end i (map exact (needle ∷ needles))) ≡ Some (span_to i (i + length needle))
      here e = rw (lies-there needle e) refl

      next : occurs_at (take end text) needle i ≡ false
          → option_map (span_to i) (first_there text end i (map exact (needle ∷ needles)))
          ≡ option_map (span_to i) (first_there text end i (map exact needles))
      next e = rw (lies-not needle e) refl

-- Where a literal with bytes lies, it ends later, and within the span.
module _ (text : List ℕ) (end i : ℕ) where
  long : (needle : List ℕ) → is_empty needle ≡ false → 0 < length needle
  long needle e = let test : (length needle == 0) ≡ false = e in grind (arith, nat_tests)

  pub there-long : (needles : List (List ℕ)) → list_any is_empty needles ≡ false → (e : ℕ) → first_there text end i (map exact needles) ≡ Some e
      → (i < e) × (e ≤ end)
  there-long [] none e is = none-is-some is
  there-long (needle ∷ needles) none e is =
      by_test (lies text end i (exact needle))
      (λ there.
      let both = and_parts (stands_at text i needle) (nat_le (i + length needle) end) there in
      let fits : i + length needle ≤ end = (let test = both.1 in grind (arith, nat_tests)) in
      let some = long needle (or-left (is_empty needle) (list_any is_empty needles) none) in
      let same : i + length needle ≡ e = some-is (rw there at is) in
      (omega arith, omega arith))
      (λ gone. there-long needles (or-right (is_empty needle) (list_any is_empty needles) none) e (rw gone at is))
    where
      or-left : (a b : Bool) → (a || b) ≡ false → a ≡ false
      or-left false b e = refl
      or-left true b e = absurd (true≢false e)

      or-right : (a b : Bool) → (a || b) ≡ false → b ≡ false
      or-right false b e = e
      or-right true b e = absurd (true≢false e)

-- needles that fit a kind of search have bytes
pub served-long : (needles : List (List ℕ)) → served needles ≡ Some needles → list_any is_empty needles ≡ false
unfolding choice_of
served-long needles e =
    by_test (length needles == 0 || list_any is_empty needles)
    (λ bad. none-is-some (rw bad at e))
    (λ good. right (length needles == 0) (list_any is_empty needles) good)
  where
    right : (a b : Bool) → (a || b) ≡ false → b ≡ false
    right false b e = e
    right true b e = absurd (true≢false e)

-- what is served are the needles
pub served-same : (needles made : List (List ℕ)) → served needles ≡ Some made → needles ≡ made
served-same needles made e = cases (choice_of needles) e
  where
    cases : {C : Type 0} (o : Option C) → option_map (λ (c : C). needles) o ≡ Some made → needles ≡ made
    cases None e = none-is-some e
    cases (Some c) e = some-is e

-- a needle that lies at a place begins there, and ends in the text
span_at-ends : (needles : List (List ℕ)) (text : List ℕ) (i : ℕ) (span : Span) → span_at needles text i ≡ Some span
    → (span.start ≡ i) × (i ≤ span.end) × (span.end ≤ length text)
span_at-ends [] text i span h = none-is-some (sym (span_at-nil text i) ∙ h)
span_at-ends (needle ∷ needles) text i span h =
    by_test (occurs_at text needle i)
    (λ e.
    let fits = (OccursAt-true text needle i e).fits in
    let same : span_to i (i + length needle) ≡ span = some-is (sym (span_at-here text i needle needles e) ∙ h) in
    let ends : i + length needle ≡ span.end = ap (λ (s : Span). s.end) same in
    (sym (ap (λ (s : Span). s.start) same), omega arith, omega arith))
    (λ e. span_at-ends needles text i span (sym (span_at-next text i needle needles e) ∙ h))

-- What is found of a span lies in it.
module _ (needles : List (List ℕ)) (v : InputValue) (within : v.end ≤ length v.haystack) (part : Span) (start_is : part.start ≡ v.start)
    (end_is : part.end ≡ v.end) where
  cut-ends : length (take part.end v.haystack) ≡ v.end
  cut-ends = length-take-le part.end v.haystack (omega arith) ∙ end_is

  pub prefix-within : (found : Option Span) → found ≡ prefix_in needles v.haystack part → IfSome found (LiesWithin v)
  prefix-within None e = tt
  prefix-within (Some span) e =
      let x = span_at-ends needles (take part.end v.haystack) part.start span (sym e) in
      let starts = x.0 in
      let low = x.1 in
      let high = x.2 in
      let long = cut-ends in
      (omega arith, omega arith, omega arith)

  pub find-within : (found : Option Span) → found ≡ find_in needles v.haystack part → IfSome found (LiesWithin v)
  find-within None e = tt
  find-within (Some span) e =
      let cut = take part.end v.haystack in
      let first = subst (λ r. IsFirstSpan needles cut part.start r) (sym e) (first_span-is_first needles cut part.start) in
      let x = span_at-ends needles cut span.start span first.2 in
      let from = first.0 in
      let low = x.1 in
      let high = x.2 in
      let long = cut-ends in
      (omega arith, omega arith, omega arith)
