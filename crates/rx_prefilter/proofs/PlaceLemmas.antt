-- Tables of pairs: what a mark keeps, and what a pair that isn't marked rules out.
use Rattle.std.proofs.Common.{◌≡◌, ◌≢◌, ℕ, suc, ◌+◌, ◌-◌, ◌*◌, ◌/◌, ◌%◌, ◌^◌, ◌<◌, ◌≤◌, min, max, List, [], ◌∷◌, ◌++◌, None, Some, All, length, get_or, set, slice_index, bit_and, bit_or, w8, sym, ap, ◌∙◌, arith, ⊎_elim}
use Rattle.std.specs.Option.{option_or}
use Rattle.std.specs.Int.{bit_at}
use Rattle.std.proofs.lemmas.Bool.{cases_lt, cases_eq}
use Rattle.std.proofs.lemmas.List.{get_or-set_same, get_or-set_other}
use Rattle.std.proofs.lemmas.List.Elements.{All-head, All-tail, All-push, All-weaker, All-same}
use Rattle.std.proofs.lemmas.Nat.Bits.{bit_at_set_same, bit_at_or, bit_at_and, bit_at-suc, bit_at-lt, bit_at-zero, same_from_bits}
use Rattle.memchr.specs.Find.{OccursAt}
use Rattle.rx_search.specs.declared.span.Span.{Span}
use Rattle.rx_prefilter.specs.Needles.{span_among, NoneLies}
use Rattle.rx_prefilter.specs.Places.{pair_at, pair_number, IsMarked, Keeps}
use Rattle.rx_prefilter.proofs.ByteLemmas.{occurs_at-false}
use Rattle.rx_prefilter.proofs.NeedleLemmas.{span_at-nil, span_at-next, span_among-skip, span_among-split, span_among-zero}

-- a mark more
pub marked_same : (ps : List ℕ) (pair j : ℕ) → pair < length ps → j < 8
    → bit_at (get_or (set ps pair (bit_or (get_or ps pair 0) (1 * 2 ^ j % 2 ^ 8))) pair 0) j ≡ 1
marked_same ps pair j within few =
    ap (λ n. bit_at n j) (get_or-set_same ps pair (bit_or (get_or ps pair 0) (1 * 2 ^ j % 2 ^ 8)) 0 within) ∙ bit_at_set_same w8 (get_or ps pair 0) j few

bit_at_left : (a b k : ℕ) → bit_at a k ≡ 1 → bit_at (bit_or a b) k ≡ 1
bit_at_left a b k e =
    let both = bit_at_or a b k in
    let small : bit_at b k < 2 = omega arith in
    omega (arith, both, small, e)

pub marked_kept : (ps : List ℕ) (pair v : ℕ) → pair < length ps → Keeps ps (set ps pair (bit_or (get_or ps pair 0) v))
marked_kept ps pair v within i k e =
    ⊎_elim
    (λ same. rw same (ap (λ n. bit_at n k) (get_or-set_same ps pair (bit_or (get_or ps pair 0) v) 0 within)
    ∙ bit_at_left (get_or ps pair 0) v k (rw same at e)))
    (λ other. ap (λ n. bit_at n k) (get_or-set_other ps pair i (bit_or (get_or ps pair 0) v) 0 other) ∙ e)
    (cases_eq i pair)

pub marked_more : (old new needle : List ℕ) (j pair : ℕ) → Keeps old new → pair ≡ pair_at needle j → bit_at (slice_index new pair) j ≡ 1
    → ((k : ℕ) → k < j → bit_at (slice_index old (pair_at needle k)) k ≡ 1) → (k : ℕ) → k < j + 1 → bit_at (slice_index new (pair_at needle k)) k ≡ 1
marked_more old new needle j pair kept is marked before k l =
    ⊎_elim
    (λ below. kept (pair_at needle k) k (before k below))
    (λ above. let here : k ≡ j = omega arith in rw here (ap (λ p. bit_at (slice_index new p) j) (sym is) ∙ marked))
    (cases_lt k j)

pub IsMarked-kept : (old new : List ℕ) (stride : ℕ) (needle : List ℕ) → Keeps old new → IsMarked old stride needle → IsMarked new stride needle
IsMarked-kept old new stride needle kept m = record { long = m.long; marked = λ j l. kept (pair_at needle j) j (m.marked j l) }

pub all_marked_more : (old new : List ℕ) (stride : ℕ) (ns ms : List (List ℕ)) (needle : List ℕ) → Keeps old new → ms ≡ ns ++ needle ∷ []
    → All (IsMarked old stride) ns → IsMarked new stride needle → All (IsMarked new stride) ms
all_marked_more old new stride ns ms needle kept is before here =
    All-same (IsMarked new stride) ms (ns ++ needle ∷ []) is
    (All-push (IsMarked new stride) ns needle (All-weaker (IsMarked old stride) (IsMarked new stride) (λ n m. IsMarked-kept old new stride n kept m) ns before)
    here)

pub all_longer_more : (s t : ℕ) (ns ms : List (List ℕ)) (needle : List ℕ) → t ≤ s → t < length needle → ms ≡ ns ++ needle ∷ []
    → All (λ n. s < length n) ns → All (λ n. t < length n) ms
all_longer_more s t ns ms needle le here is before =
    let P : List ℕ → Type 0 = λ n. s < length n in
    let Q : List ℕ → Type 0 = λ n. t < length n in
    All-same Q ms (ns ++ needle ∷ []) is (All-push Q ns needle (All-weaker P Q (λ n l. omega arith) ns before) here)

-- the bits of a number that is doubled, and has one more
odd : (n : ℕ) → bit_at (2 * n + 1) 0 ≡ 1
odd n = omega arith

doubled : (n i : ℕ) → bit_at (2 * n + 1) (suc i) ≡ bit_at n i
doubled n i = let half : (2 * n + 1) / 2 ≡ n = omega arith in bit_at-suc (2 * n + 1) i ∙ ap (λ m. bit_at m i) half

-- a pair that isn't marked at place j rules out a needle that begins j places before
module _ (places : List ℕ) (stride : ℕ) (text : List ℕ) where
  lies_marked : (needle : List ℕ) (at j : ℕ) → IsMarked places stride needle → j < stride → OccursAt text needle at
      → bit_at (slice_index places (pair_at text (at + j))) j ≡ 1
  lies_marked needle at j m l o =
      let long = m.long in
      let first : slice_index text (at + j) ≡ slice_index needle j = o.reads j (omega arith) in
      let s : at + j + 1 ≡ at + (j + 1) = omega arith in
      let second : slice_index text (at + j + 1) ≡ slice_index needle (j + 1) = ap (slice_index text) s ∙ o.reads (j + 1) (omega arith) in
      let same : pair_at text (at + j) ≡ pair_at needle j =
      ap (λ a. pair_number a (slice_index text (at + j + 1))) first ∙ ap (pair_number (slice_index needle j)) second in
      ap (λ p. bit_at (slice_index places p) j) same ∙ m.marked j l

  pub unmarked_none : (needles : List (List ℕ)) (at j : ℕ) → All (IsMarked places stride) needles → j < stride
      → bit_at (slice_index places (pair_at text (at + j))) j ≢ 1 → NoneLies needles text at
  unmarked_none [] at j marked l not = span_at-nil text at
  unmarked_none (needle ∷ needles) at j marked l not =
      span_at-next text at needle needles (occurs_at-false text needle at
      (λ o. not (lies_marked needle at j (All-head (IsMarked places stride) needle needles marked) l o)))
      ∙ unmarked_none needles at j (All-tail (IsMarked places stride) needle needles marked) l not

  -- no needle begins where fewer than its bytes are left
  pub short_none : (needles : List (List ℕ)) (at : ℕ) → All (IsMarked places stride) needles → length text ≤ at + stride → NoneLies needles text at
  short_none [] at marked past = span_at-nil text at
  short_none (needle ∷ needles) at marked past =
      let long = (All-head (IsMarked places stride) needle needles marked).long in
      span_at-next text at needle needles (occurs_at-false text needle at (λ o. absurd (omega (arith, o.fits, long))))
      ∙ short_none needles at (All-tail (IsMarked places stride) needle needles marked) past

  none_among : (needles : List (List ℕ)) (at : ℕ) → ((k : ℕ) → at ≤ k → k < at + stride → NoneLies needles text k) → span_among needles text at stride ≡ None
  none_among needles at none =
      let e : stride + 0 ≡ stride = omega arith in
      ap (span_among needles text at) (sym e) ∙ span_among-skip needles text stride at 0 none ∙ span_among-zero needles text (at + stride)

  -- The pair at the last place of a window rules out each place from which it is not marked, and so does the pair
  -- before it.
  pub unmarked_window : (needles : List (List ℕ)) (at before here : ℕ) → All (IsMarked places stride) needles → 0 < stride
      → here ≡ slice_index places (pair_at text (at + stride - 1)) → (1 < stride → before ≡ slice_index places (pair_at text (at + stride - 2)))
      → bit_and here (2 * before + 1) ≡ 0 → span_among needles text at stride ≡ None
  unmarked_window needles at before here marked some here_is before_is apart = none_among needles at (λ k a b.
      let j = at + stride - 1 - k in
      let place : at + stride - 1 ≡ k + j = omega arith in
      let both : 0 ≡ min (bit_at here j) (bit_at (2 * before + 1) j) =
      sym (bit_at-zero j) ∙ ap (λ n. bit_at n j) (sym apart) ∙ bit_at_and here (2 * before + 1) j in
      let small = bit_at-lt here j in
      let clear : bit_at here j ≡ 0 → NoneLies needles text k = λ zero_is. unmarked_none needles k j marked (omega arith)
      (λ one. absurd (omega (arith, zero_is, ap (λ n. bit_at n j) (here_is ∙ ap (λ p. slice_index places (pair_at text p)) place) ∙ one))) in
      ⊎_elim
      (λ (first : j ≡ 0).
      let low : bit_at (2 * before + 1) j ≡ 1 = ap (bit_at (2 * before + 1)) first ∙ odd before in
      clear (omega (arith, both, low, small)))
      (λ (later : j ≡ 0 → ⊥).
      let i = j - 1 in
      let next : j ≡ suc i = omega (arith, later) in
      let place_before : at + stride - 2 ≡ k + i = omega (arith, later) in
      let shifted : bit_at (2 * before + 1) j ≡ bit_at before i = ap (bit_at (2 * before + 1)) next ∙ doubled before i in
      ⊎_elim
      (λ (one : bit_at before i ≡ 1). clear (omega (arith, both, one, shifted, small)))
      (λ (other : bit_at before i ≡ 1 → ⊥). unmarked_none needles k i marked (omega (arith, later))
      (λ one. absurd (other (ap (λ n. bit_at n i) (before_is (omega (arith, later)) ∙ ap (λ p. slice_index places (pair_at text p)) place_before) ∙ one))))
      (cases_eq (bit_at before i) 1))
      (cases_eq j 0))

-- where two numbers have no bit, neither has one
pub neither : (a b : ℕ) → bit_or a b ≡ 0 → (a ≡ 0) × (b ≡ 0)
neither a b none =
    let both : (i : ℕ) → max (bit_at a i) (bit_at b i) ≡ 0 = λ i. sym (bit_at_or a b i) ∙ ap (λ n. bit_at n i) none ∙ bit_at-zero i in (
      same_from_bits a 0 (λ i. let e = both i in let z = bit_at-zero i in omega (arith, e, z)),
      same_from_bits b 0 (λ i. let e = both i in let z = bit_at-zero i in omega (arith, e, z)),
    )

-- two windows, one after the other
module _ (needles : List (List ℕ)) (text : List ℕ) (at k : ℕ) where
  pub two_found : (span : Span) → span_among needles text at k ≡ Some span → span_among needles text at (k + k) ≡ Some span
  two_found span e = span_among-split needles text k at k ∙ ap (λ o. option_or o (span_among needles text (at + k) k)) e

  pub two_next : span_among needles text at k ≡ None → span_among needles text at (k + k) ≡ span_among needles text (at + k) k
  two_next e = span_among-split needles text k at k ∙ ap (λ o. option_or o (span_among needles text (at + k) k)) e
