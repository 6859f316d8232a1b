-- Where the patterns are known to have no match, they have none.
use Rattle.std.proofs.Common.{◌≡◌, ℕ, zero, suc, ◌<◌, ◌≤◌, true, List, [], ◌∷◌, length, Option, Some}
use Rattle.std.proofs.Common.{None, slice_get, sym, subst, inl, inr, arith, true≢false, refl}
use Rattle.std.specs.Prelude.{◌==◌, ◌&&◌, ◌||◌, nat_lt}
use Rattle.std.proofs.lemmas.Bool.{or_cases, and_parts}
use Rattle.std.proofs.lemmas.Bool.Decides.{nat_tests}
use Rattle.rx_model.specs.Look.{start_text, end_text, holds}
use Rattle.rx_model.specs.Expression.{Expression, alternation, AreOrdered}
use Rattle.rx_model.specs.Length.{minimum_len}
use Rattle.rx_model.specs.Meaning.{Means}
use Rattle.rx_model.specs.Search.{Patterns, Anchor, free, anchored, anchored_to, is_anchored, Match}
use Rattle.rx_model.specs.Matches.{IsStart, IsMatch}
use Rattle.rx_model.proofs.lemmas.runs.FirstLemmas.{some-is, none-is-some, tells}
use Rattle.rx_model.proofs.lemmas.meaning.LengthLemmas.{means-long}
use Rattle.rx_model.proofs.lemmas.matches.WithinLemmas.{next-run, match-within, match-means}
use Rattle.rx_search.specs.Input.{InputValue, next_in, span_len}
use Rattle.rx_hir.specs.Length.{maximum_len, saturated, in_64_bits}
use Rattle.rx_hir.specs.Normal.{expressions}
use Rattle.rx_hir.proofs.LookLemmas.{first-holds, last-holds}
use Rattle.rx_hir.proofs.SpanLemmas.{means-short, saturated-some, in_64_bits-some}
use Rattle.rx_strategy.specs.Impossible.{is_below, is_above, is_always_anchored_start, is_always_anchored_end, begins_too_late}
use Rattle.rx_strategy.specs.Impossible.{ends_too_early, is_too_short, is_anchored_start, is_too_long, is_impossible}

pub start-place : (t : ℕ) (text : List ℕ) (i : ℕ) → holds t text start_text i ≡ true → i ≡ 0
unfolding holds
start-place t text i e = let is : (i == 0) ≡ true = e in grind (arith, nat_tests)

end-place : (t : ℕ) (text : List ℕ) (i : ℕ) → holds t text end_text i ≡ true → i ≡ length text
unfolding holds
end-place t text i e = let is : (i == length text) ≡ true = e in grind (arith, nat_tests)

below-some : (len : ℕ) (o : Option ℕ) → is_below len o ≡ true → (least : ℕ) × (o ≡ Some least) × (len < least)
below-some len None e = absurd (true≢false (sym e))
below-some len (Some least) e = (least, refl, grind (arith, nat_tests))

above-some : (len : ℕ) (o : Option ℕ) → is_above len o ≡ true → (greatest : ℕ) × (o ≡ Some greatest) × (greatest < len)
above-some len None e = absurd (true≢false (sym e))
above-some len (Some greatest) e = (greatest, refl, grind (arith, nat_tests))

-- an expression that means a part of the input's span, from its first place where the search is anchored
module _ (h : Expression) (v : InputValue) (t i j : ℕ) (means : Means t v.haystack h i j)
    (low : v.start ≤ i) (high : j ≤ v.end) (within : v.end ≤ length v.haystack) (first : is_anchored v.anchor ≡ true → i ≡ v.start) where
  starts : is_always_anchored_start h ≡ true → i ≡ 0
  starts e = start-place t v.haystack i (first-holds t v.haystack start_text h e i j means)

  ends : is_always_anchored_end h ≡ true → j ≡ length v.haystack
  ends e = end-place t v.haystack j (last-holds t v.haystack end_text h e i j means)

  not-late : begins_too_late h v ≡ true → ⊥
  not-late e =
      let both = and_parts (nat_lt 0 v.start) (is_always_anchored_start h) e in
      let above : 0 < v.start = (let test = both.0 in grind (arith, nat_tests)) in
      let start = starts both.1 in
      omega arith

  not-early : ends_too_early h v ≡ true → ⊥
  not-early e =
      let both = and_parts (nat_lt v.end (length v.haystack)) (is_always_anchored_end h) e in
      let below : v.end < length v.haystack = (let test = both.0 in grind (arith, nat_tests)) in
      let end = ends both.1 in
      omega arith

  not-short : is_too_short h v ≡ true → ⊥
  not-short e =
      let short = below-some (span_len v) (saturated (minimum_len h)) e in
      let least = saturated-some (minimum_len h) short.0 short.1 in
      let long = means-long t v.haystack h least.0 least.1 i j means in
      let below : span_len v < short.0 = short.2 in
      let le : short.0 ≤ least.0 = least.2 in
      omega arith

  begins : is_anchored_start h v ≡ true → i ≡ v.start
  begins e =
      elim (or_cases (is_anchored v.anchor) (is_always_anchored_start h) e) [
        | inl is ↦ first is
        | inr is ↦ (let start = starts is in omega arith)
      ]

  not-long : is_too_long h v ≡ true → ⊥
  not-long e =
      let both = and_parts (is_anchored_start h v && is_always_anchored_end h) (is_above (span_len v) (in_64_bits (maximum_len h))) e in
      let whole = and_parts (is_anchored_start h v) (is_always_anchored_end h) both.0 in
      let long = above-some (span_len v) (in_64_bits (maximum_len h)) both.1 in
      let short = means-short t v.haystack h long.0 (in_64_bits-some (maximum_len h) long.0 long.1) i j means in
      let start = begins whole.0 in
      let end = ends whole.1 in
      let above : long.0 < span_len v = long.2 in
      omega arith

-- what one of the alternatives means their alternation means
pub meant-among : (t : ℕ) (text : List ℕ) (hs : List Expression) (p : ℕ) (h : Expression) → slice_get hs p ≡ Some h → (i j : ℕ) → Means t text h i j
    → Means t text (alternation (expressions hs)) i j
unfolding Means
meant-among t text [] p h is i j m = none-is-some is
meant-among t text (x ∷ hs) zero h is i j m = inl (subst (λ y. Means t text y i j) (sym (some-is is)) m)
meant-among t text (x ∷ hs) (suc p) h is i j m = inr (meant-among t text hs p h is i j m)

anchored-start : (anchor : Anchor) (b a i : ℕ) → IsStart anchor b a i → is_anchored anchor ≡ true → i ≡ a
anchored-start free b a i s e = absurd (true≢false (sym e))
anchored-start anchored b a i s e = s.0
anchored-start (anchored_to p) b a i s e = s.0

module _ (r : Patterns) (v : InputValue) (ordered : (p : ℕ) (h : Expression) → slice_get r.expressions p ≡ Some h → AreOrdered h)
    (within : v.end ≤ length v.haystack) where
  no-match : is_impossible r.expressions v ≡ true → (m : Match) → IsMatch r v.haystack v.anchor v.end v.start m → ⊥
  no-match e m is =
      let h : Expression = alternation (expressions r.expressions) in
      let inside = match-within r v.haystack v.anchor v.end v.start m is in
      let own = match-means r v.haystack v.anchor v.end v.start m is is.expression is.is_there (ordered m.trace.pattern is.expression is.is_there) in
      let means : Means r.terminator v.haystack h m.start m.trace.end =
      meant-among r.terminator v.haystack r.expressions m.trace.pattern is.expression is.is_there m.start m.trace.end own in
      let first = anchored-start v.anchor v.end v.start m.start is.start.0 in
      elim (or_cases (begins_too_late h v || ends_too_early h v || is_too_short h v) (is_too_long h v) e) [
        | inr long ↦ not-long h v r.terminator m.start m.trace.end means inside.0 inside.2 within first long
        | inl e ↦
            elim (or_cases (begins_too_late h v || ends_too_early h v) (is_too_short h v) e) [
              | inr short ↦ not-short h v r.terminator m.start m.trace.end means inside.0 inside.2 within first short
              | inl e ↦
                  elim (or_cases (begins_too_late h v) (ends_too_early h v) e) [
                    | inl late ↦ not-late h v r.terminator m.start m.trace.end means inside.0 inside.2 within first late
                    | inr early ↦ not-early h v r.terminator m.start m.trace.end means inside.0 inside.2 within first early
                  ]
            ]
      ]

  pub no-next : is_impossible r.expressions v ≡ true → next_in r v ≡ None
  no-next e =
      elim (tells (next_in r v)) [
        | inl none ↦ none
        | inr some ↦ absurd (no-match e some.0 (next-run r v.haystack v.anchor v.end v.start some.0 some.1))
      ]
