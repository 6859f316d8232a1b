-- Jumps: bytes that stand at one offset of each needle, and the places at which no needle begins.
use Rattle.std.proofs.Common.{◌≡◌, ℕ, ◌+◌, ◌-◌, ◌<◌, ◌≤◌, Bool, true, false, ◌||◌, ◌==◌, List, [], ◌∷◌, ◌++◌, Option, None, Some, All, length, drop, slice_index, refl, sym, ap, ◌∙◌, arith, ⊎_elim, length-drop}
use Rattle.std.specs.Option.{option_map}
use Rattle.std.proofs.lemmas.Bool.{cases_Bool, cases_lt, eq-eqb, false≢true, or_left, or_right}
use Rattle.std.proofs.lemmas.List.{get_or-drop}
use Rattle.std.proofs.lemmas.List.Elements.{All-head, All-tail, All-push, All-weaker, All-same}
use Rattle.memchr.specs.Find.{IsFirstByte, Passes}
use Rattle.rx_prefilter.specs.Bytes.{is_one_of}
use Rattle.rx_prefilter.specs.Jumps.{HasAt, Widens, IsNextPlace}
use Rattle.rx_prefilter.specs.Needles.{NoneLies}
use Rattle.rx_prefilter.proofs.ByteLemmas.{occurs_at-false}
use Rattle.rx_prefilter.proofs.NeedleLemmas.{span_at-nil, span_at-next}

-- one byte more
or_more : (p q r : Bool) → (p || q) ≡ true → (q ≡ true → r ≡ true) → (p || r) ≡ true
or_more true q r e more = refl
or_more false q r e more = more e

pub widens_one : (a b : ℕ) → Widens (a ∷ []) (a ∷ b ∷ [])
widens_one a b x e = or_more (a == x) false (b == x || false) e (λ f. absurd (false≢true f))

pub widens_two : (a b c : ℕ) → Widens (a ∷ b ∷ []) (a ∷ b ∷ c ∷ [])
widens_two a b c x e = or_more (a == x) (b == x || false) (b == x || (c == x || false)) e
    (λ f. or_more (b == x) false (c == x || false) f (λ g. absurd (false≢true g)))

pub last_of_two : (a b : ℕ) → is_one_of (a ∷ b ∷ []) b ≡ true
last_of_two a b = or_right (a == b) (b == b || false) (or_left (b == b) false (eq-eqb b b refl))

pub last_of_three : (a b c : ℕ) → is_one_of (a ∷ b ∷ c ∷ []) c ≡ true
last_of_three a b c = or_right (a == c) (b == c || (c == c || false)) (or_right (b == c) (c == c || false) (or_left (c == c) false (eq-eqb c c refl)))

-- the first byte that passes a test passes one that is the same
pub first_by_same : (p q : ℕ → Bool) (text : List ℕ) → ((x : ℕ) → p x ≡ q x) → (r : Option ℕ) → IsFirstByte p text r → IsFirstByte q text r
first_by_same p q text same None nowhere = λ k a b passes. nowhere k a b (same (slice_index text k) ∙ passes)
first_by_same p q text same (Some n) found = (
  record { low = found.0.low; high = found.0.high; before = λ k a b passes. found.0.before k a b (same (slice_index text k) ∙ passes) },
  sym (same (slice_index text n)) ∙ found.1,
)

-- a list that takes a needle more, while the bytes widen
pub all_at_more : (old new : List ℕ) (offset : ℕ) (ns ms : List (List ℕ)) (needle : List ℕ) → Widens old new → offset < length needle
    → is_one_of new (slice_index needle offset) ≡ true → ms ≡ ns ++ needle ∷ [] → All (HasAt old offset) ns → All (HasAt new offset) ms
all_at_more old new offset ns ms needle widens long stands is before =
    All-same (HasAt new offset) ms (ns ++ needle ∷ []) is
    (All-push (HasAt new offset) ns needle
    (All-weaker (HasAt old offset) (HasAt new offset) (λ n h. record { long = h.long; stands = widens (slice_index n offset) h.stands }) ns before)
    record { long = long; stands = stands })

module _ (bytes : List ℕ) (offset : ℕ) (text : List ℕ) where
  -- no needle begins where none of the bytes stands at the offset
  pub none_without : (needles : List (List ℕ)) (k : ℕ) → All (HasAt bytes offset) needles
      → (k + offset < length text → is_one_of bytes (slice_index text (k + offset)) ≡ false) → NoneLies needles text k
  none_without [] k all not = span_at-nil text k
  none_without (needle ∷ needles) k all not =
      let has = All-head (HasAt bytes offset) needle needles all in
      let long = has.long in
      span_at-next text k needle needles (occurs_at-false text needle k (λ o.
      false≢true (sym (not (omega (arith, o.fits, long))) ∙ ap (is_one_of bytes) (o.reads offset long) ∙ has.stands)))
      ∙ none_without needles k (All-tail (HasAt bytes offset) needle needles all) not

  -- nor where the text has too few bytes left
  pub none_past : (needles : List (List ℕ)) (at : ℕ) → All (HasAt bytes offset) needles → length text < at + offset → (k : ℕ) → at ≤ k → NoneLies needles text k
  none_past needles at all past k le = none_without needles k all (λ within. absurd (omega arith))

  -- before the first of the bytes, counted from the offset on, no needle begins
  module _ (needles : List (List ℕ)) (at : ℕ) (all : All (HasAt bytes offset) needles) (low : at + offset ≤ length text) where
    none_unless : (k : ℕ) → at ≤ k → ¬ Passes (is_one_of bytes) (drop (at + offset) text) (k - at) → NoneLies needles text k
    none_unless k le fails = none_without needles k all (λ within.
        let place : at + offset + (k - at) ≡ k + offset = omega arith in
        let read : slice_index (drop (at + offset) text) (k - at) ≡ slice_index text (k + offset) =
        get_or-drop (at + offset) text (k - at) 0 ∙ ap (slice_index text) place in
        ⊎_elim (λ yes_is. absurd (fails (ap (is_one_of bytes) read ∙ yes_is))) (λ no_is. no_is) (cases_Bool (is_one_of bytes (slice_index text (k + offset)))))

    pub next_place : (r : Option ℕ) → IsFirstByte (is_one_of bytes) (drop (at + offset) text) r → IsNextPlace needles text at (option_map (λ k. at + k) r)
    next_place None nowhere = λ k le. ⊎_elim
        (λ (within : k + offset < length text). none_unless k le (nowhere (k - at) (omega arith)
        (let l = length-drop (at + offset) text in omega (arith, l, within))))
        (λ (past : length text ≤ k + offset). none_without needles k all (λ within. absurd (omega (arith, past, within))))
        (cases_lt (k + offset) (length text))
    next_place (Some n) found =
        let high = found.0.high in
        let l = length-drop (at + offset) text in (
          omega arith,
          omega (arith, l, high),
          λ k le below. none_unless k le (found.0.before (k - at) (omega arith) (omega arith)),
        )
