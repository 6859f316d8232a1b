-- The first start from which a run ends with a literal is where the search for needles finds the first one.
use Rattle.std.proofs.Common.{◌≡◌, ℕ, zero, suc, ◌+◌, ◌≤◌, List, length, map, take, refl, sym, ◌∙◌, ap, inl, inr}
use Rattle.std.specs.Prelude.{Bool, true, false, Option, Some, None, option_map, if◌then◌else◌}
use Rattle.std.specs.Option.{option_or}
use Rattle.rx_model.specs.Runs.{Trace}
use Rattle.rx_model.specs.Search.{Match, first_start}
use Rattle.rx_model.proofs.lemmas.runs.FirstLemmas.{tells}
use Rattle.rx_search.specs.declared.span.Span.{Span}
use Rattle.rx_literal.specs.First.{first_there}
use Rattle.rx_literal.specs.Literals.{exact}
use Rattle.rx_prefilter.specs.Needles.{span_at, span_among}
use Rattle.rx_prefilter.proofs.NeedleLemmas.{span_among-here, span_among-next, span_among-zero}
use Rattle.rx_pre.proofs.NeedleLemmas.{span_to, span-there}

-- the match that starts there and tells this
abbrev pub started : ℕ → Trace → Match
started i t = record { start = i; trace = t }

-- a place from which nothing is told is passed over
passed : (may : Bool) (i : ℕ) (o : Option Trace) (rest : Option Match) → o ≡ None
    → option_or (if may then option_map (λ t. started i t) o else None) rest ≡ rest
passed true i None rest e = refl
passed false i None rest e = refl
passed may i (Some t) rest e = cc

module _ {T : Type 0} (text : List ℕ) (end : ℕ) (within : end ≤ length text) (needles : List (List ℕ)) (may : ℕ → Bool) (from : ℕ → Option Trace)
    (view : Match → T) (of : Span → T)
    (told : (i : ℕ) → option_map (λ (t : Trace). t.end) (from i) ≡ first_there text end i (map exact needles))
    (allowed : (i : ℕ) (t : Trace) → from i ≡ Some t → may i ≡ true)
    (same : (i : ℕ) (t : Trace) → from i ≡ Some t → view (started i t) ≡ of (span_to i t.end)) where
  abbrev cut : List ℕ
  cut = take end text

  abbrev there : ℕ → Option ℕ
  there i = first_there text end i (map exact needles)

  pub starts-found : (n i : ℕ) → option_map view (first_start may from n i) ≡ option_map of (span_among needles cut i n)
  unfolding first_start
  starts-found zero i = sym (ap (option_map of) (span_among-zero needles cut i))
  starts-found (suc n) i =
      elim (tells (from i)) [
        | inl none ↦
            let nowhere : there i ≡ None = sym (told i) ∙ ap (option_map (λ (t : Trace). t.end)) none in
            let gone : span_at needles cut i ≡ None = span-there text end i within needles ∙ ap (option_map (span_to i)) nowhere in
            ap (option_map view) (passed (may i) i (from i) (first_start may from n (i + 1)) none)
            ∙ starts-found n (i + 1) ∙ sym (ap (option_map of) (span_among-next needles cut i n gone))
        | inr some ↦
            let t = some.0 in
            let found : first_start may from (suc n) i ≡ Some (started i t) = rw (allowed i t some.1, some.1) refl in
            let here : there i ≡ Some t.end = sym (told i) ∙ ap (option_map (λ (u : Trace). u.end)) some.1 in
            let lies : span_at needles cut i ≡ Some (span_to i t.end) = span-there text end i within needles ∙ ap (option_map (span_to i)) here in
            ap (option_map view) found ∙ ap Some (same i t some.1) ∙ sym (ap (option_map of) (span_among-here needles cut i n (span_to i t.end) lies))
      ]
