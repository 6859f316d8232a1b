-- Ranges that ascend, and one number range: what the range at a place tells of all before it, or of all from it on.
use Rattle.std.proofs.Common.{◌≡◌, ℕ, zero, suc, ◌<◌, ◌≤◌, Bool, true, false, List, [], ◌∷◌, length, take, drop, get_or, refl, ap, sym, ◌∙◌, arith}
use Rattle.std.specs.Prelude.{◌&&◌, ◌||◌, nat_lt}
use Rattle.std.specs.List.{list_all}
use Rattle.std.proofs.lemmas.Bool.Decides.{nat_tests}
use Rattle.std.proofs.lemmas.List.{take-append-drop}
use Rattle.std.proofs.lemmas.List.Folds.{list_all-append}
use Rattle.rx_class.specs.Ranges.{BeginPast, AreFewest}
use Rattle.rx_class.proofs.RangeLemmas.{past-weaker}
use Rattle.rx_order.specs.Tests.{is_clear}

-- neither range ends before the other one begins
apart-before : (r q : ℕ × ℕ) → r.1 < q.0 → (nat_lt r.1 q.0 || nat_lt q.1 r.0) ≡ true
apart-before r q lt = grind (arith, nat_tests)

apart-after : (r q : ℕ × ℕ) → q.1 < r.0 → (nat_lt r.1 q.0 || nat_lt q.1 r.0) ≡ true
apart-after r q lt = grind (arith, nat_tests)

apart-not : (r q : ℕ × ℕ) → q.0 ≤ r.1 → r.0 ≤ q.1 → (nat_lt r.1 q.0 || nat_lt q.1 r.0) ≡ false
apart-not r q low high = grind (arith, nat_tests)

clear-first : (r q : ℕ × ℕ) (rs : List (ℕ × ℕ)) → (nat_lt r.1 q.0 || nat_lt q.1 r.0) ≡ true → is_clear (r ∷ rs) q ≡ is_clear rs q
clear-first r q rs apart = ap (λ b. b && is_clear rs q) apart

and-false : (a b : Bool) → b ≡ false → (a && b) ≡ false
and-false true b e = e
and-false false b e = refl

-- the range at a place shares a number with it
pub touched : (rs : List (ℕ × ℕ)) (m : ℕ) (d q : ℕ × ℕ) → m < length rs → q.0 ≤ (get_or rs m d).1 → (get_or rs m d).0 ≤ q.1 → is_clear rs q ≡ false
touched [] m d q lt low high = absurd (omega arith)
touched (s ∷ rs) zero d q lt low high = ap (λ b. b && is_clear rs q) (apart-not s q low high)
touched (s ∷ rs) (suc m) d q lt low high =
    and-false (nat_lt s.1 q.0 || nat_lt q.1 s.0) (is_clear rs q) (touched rs m d q (omega (arith, lt)) low high)

module _ (next : ℕ → ℕ) (above : (n : ℕ) → n < next n) where
  -- a later range begins past what the first one begins past, and its ends are in order
  past-later : (rs : List (ℕ × ℕ)) (m n : ℕ) (d : ℕ × ℕ) → BeginPast n rs → AreFewest next rs → m < length rs
      → (n < (get_or rs m d).0) × ((get_or rs m d).0 ≤ (get_or rs m d).1)
  past-later [] m n d past h lt = absurd (omega arith)
  past-later (s ∷ rs) zero n d past h lt = (past, h.0)
  past-later (s ∷ rs) (suc m) n d past h lt =
      past-later rs m n d (past-weaker n (next s.1) rs (omega (arith, above s.1, h.0)) h.1) h.2 (omega (arith, lt))

  -- all ranges that begin past its end
  clear-past : (rs : List (ℕ × ℕ)) (q : ℕ × ℕ) → BeginPast q.1 rs → AreFewest next rs → is_clear rs q ≡ true
  clear-past [] q past h = refl
  clear-past (r ∷ rs) q past h =
      clear-first r q rs (apart-after r q past) ∙ clear-past rs q (past-weaker q.1 (next r.1) rs (omega (arith, above r.1, h.0)) h.1) h.2

  -- the range at a place ends before it, and so do all before that one
  pub clear-up_to : (rs : List (ℕ × ℕ)) (m : ℕ) (d q : ℕ × ℕ) → AreFewest next rs → m < length rs → (get_or rs m d).1 < q.0
      → is_clear (take (suc m) rs) q ≡ true
  clear-up_to [] m d q h lt before = absurd (omega arith)
  clear-up_to (s ∷ rs) zero d q h lt before = clear-first s q [] (apart-before s q before)
  clear-up_to (s ∷ rs) (suc m) d q h lt before =
      let later = past-later rs m (next s.1) d h.1 h.2 (omega (arith, lt)) in
      let up = above s.1 in
      let first = later.0 in
      let ordered = later.1 in
      clear-first s q (take (suc m) rs) (apart-before s q (omega arith))
      ∙ clear-up_to rs m d q h.2 (omega (arith, lt)) before

  -- the range at a place begins past its end, and so do all behind that one
  pub clear-from : (rs : List (ℕ × ℕ)) (m : ℕ) (d q : ℕ × ℕ) → AreFewest next rs → m < length rs → q.1 < (get_or rs m d).0
      → is_clear (drop m rs) q ≡ true
  clear-from [] m d q h lt after = absurd (omega arith)
  clear-from (s ∷ rs) zero d q h lt after = clear-past (s ∷ rs) q after h
  clear-from (s ∷ rs) (suc m) d q h lt after = clear-from rs m d q h.2 (omega (arith, lt)) after

-- all before a place, and all from it on
pub clear-both : (rs : List (ℕ × ℕ)) (n : ℕ) (q : ℕ × ℕ) → is_clear (take n rs) q ≡ true → is_clear (drop n rs) q ≡ true → is_clear rs q ≡ true
clear-both rs n q before after =
    ap (λ xs. is_clear xs q) (sym (take-append-drop n rs))
    ∙ list_all-append (λ (r : ℕ × ℕ). nat_lt r.1 q.0 || nat_lt q.1 r.0) (take n rs) (drop n rs)
    ∙ (λ i. before i && after i)
