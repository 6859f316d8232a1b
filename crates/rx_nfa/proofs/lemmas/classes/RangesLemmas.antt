-- Ranges that rise.
use Rattle.std.proofs.Common.{◌≡◌, ℕ, zero, suc, ◌+◌, ◌-◌, ◌*◌, ◌/◌, ◌%◌, ◌≤◌, ◌<◌, ◌⊎◌, List, [], ◌∷◌, ◌++◌, refl, sym, ◌∙◌, ap, subst, inl, inr, arith, length, drop, get_or, drop-cons, take, append-nil, true≢false, max, min}
use Rattle.std.specs.Prelude.{Bool, true, false, ◌&&◌, ◌||◌, if◌then◌else◌, nat_le, nat_lt, ◌==◌}
use Rattle.std.proofs.lemmas.Bool.Decides.{nat_tests}
use Rattle.std.proofs.lemmas.List.{drop_all}
use Rattle.rx_model.proofs.lemmas.runs.RunLemmas.{by_test}
use Rattle.rx_model.specs.Text.{is_member}
use Rattle.rx_class.specs.Ranges.{next_scalar, next_byte, BeginPast, AreFewest, AreScalarRanges, AreByteRanges}
use Rattle.rx_nfa.specs.Ranges.{RisesFrom, StaysBelow, IsRest, EndsFrom, ends_in, one_if, is_narrow, size_of_block, CoversUpTo, has_block, whole_depth, whole_depths, clip}

pub RisesFrom-lower : (low lower : ℕ) (rs : List (ℕ × ℕ)) → lower ≤ low → RisesFrom low rs → RisesFrom lower rs
RisesFrom-lower low lower [] le h = h
RisesFrom-lower low lower (r ∷ rs) le h = (omega (arith, h.0), h.1, h.2)

-- the fewest ranges rise, where `next` gives a later number
module _ (next : ℕ → ℕ) (later : (c : ℕ) → c + 1 ≤ next c) where
  rise-after : (n : ℕ) (rs : List (ℕ × ℕ)) → BeginPast (next n) rs → AreFewest next rs → RisesFrom (n + 1) rs
  rise-after n [] past h = tt
  rise-after n (r ∷ rs) past h = (omega (arith, later n), h.0, rise-after r.1 rs h.1 h.2)

  fewest-rise : (rs : List (ℕ × ℕ)) → AreFewest next rs → RisesFrom 0 rs
  fewest-rise [] h = tt
  fewest-rise (r ∷ rs) h = (omega arith, h.0, rise-after r.1 rs h.1 h.2)

pub AreScalarRanges-rise : (rs : List (ℕ × ℕ)) → AreScalarRanges rs → RisesFrom 0 rs
AreScalarRanges-rise rs h = fewest-rise next_scalar (λ c. by_test (c == 0xD7FF) (λ e. rw e (grind (arith, nat_tests))) (λ e. rw e (omega arith))) rs h.0

pub AreByteRanges-rise : (rs : List (ℕ × ℕ)) → AreByteRanges rs → RisesFrom 0 rs
AreByteRanges-rise rs h = fewest-rise next_byte (λ c. omega arith) rs h

pub IsRest-same : (start : ℕ) (xs : List (ℕ × ℕ)) → RisesFrom 0 xs → IsRest start xs xs
IsRest-same start xs h = record { rises = h; stays = λ n s. s; covers = λ d n h. h; same = λ c le. refl; ends = λ from to le. refl }

pub IsRest-trans : (from to : ℕ) (xs ys zs : List (ℕ × ℕ)) → from ≤ to → IsRest from xs ys → IsRest to ys zs → IsRest to xs zs
IsRest-trans from to xs ys zs le a b = record {
  rises = b.rises;
  stays = λ n s. b.stays n (a.stays n s);
  same = λ c ge. b.same c ge ∙ a.same c (omega arith);
  covers = λ d n h. b.covers d n (a.covers d n h);
  ends = λ f t ge. b.ends f t ge ∙ a.ends f t (omega arith);
}

below : (from to n : ℕ) → n < from → one_if (nat_le from n && nat_lt n to) ≡ 0
below from to n lt = let x : nat_le from n ≡ false = grind (arith, nat_tests) in rw x refl

choose-same : (b : Bool) (x : ℕ) → x ≡ 0 → (if b then 0 else x) ≡ 0
choose-same true x e = refl
choose-same false x e = e

pub IsRest-skip : (start : ℕ) (xs : List (ℕ × ℕ)) (r : ℕ × ℕ) (rs : List (ℕ × ℕ)) → r.1 < start → IsRest start xs (r ∷ rs) → IsRest start xs rs
unfolding CoversUpTo
IsRest-skip start xs r rs lt h = record {
  rises = RisesFrom-lower (r.1 + 1) 0 rs (omega arith) h.rises.2;
  stays = λ n s. (h.stays n s).1;
  covers = λ d n s. (h.covers d n s).1;
  same = λ c le.
      (let x : nat_le c r.1 ≡ false = grind (arith, nat_tests) in
      let y : (nat_le r.0 c && nat_le c r.1) ≡ false = grind (arith, nat_tests) in
      sym (ap (λ b. b || is_member rs c) y) ∙ h.same c le);
  ends = λ from to le.
      (let rises = h.rises.1 in
      let a = below from to r.0 (omega arith) in
      let b = choose-same (is_narrow r) _ (below from to r.1 (omega arith)) in
      (let e : ends_in rs from to ≡ ends_in (r ∷ rs) from to = omega (arith, a, b) in e ∙ h.ends from to le));
}

pub IsRest-next : (start k : ℕ) (xs : List (ℕ × ℕ)) → k < length xs → (get_or xs k (0, 0)).1 < start
    → IsRest start xs (drop k xs) → IsRest start xs (drop (k + 1) xs)
IsRest-next start k xs lt before h =
    let is : drop k xs ≡ get_or xs k (0, 0) ∷ drop (suc k) xs = drop-cons xs k (0, 0) lt in
    let one : suc k ≡ k + 1 = omega arith in
    subst (λ n. IsRest start xs (drop n xs)) one
    (IsRest-skip start xs (get_or xs k (0, 0)) (drop (suc k) xs) before (subst (λ ys. IsRest start xs ys) is h))

pub EndsFrom-at : (start k : ℕ) (xs : List (ℕ × ℕ)) → k < length xs → start ≤ (get_or xs k (0, 0)).1 → EndsFrom start (drop k xs)
EndsFrom-at start k xs lt le = subst (EndsFrom start) (sym (drop-cons xs k (0, 0) lt)) le

pub EndsFrom-past : (start k : ℕ) (xs : List (ℕ × ℕ)) → length xs ≤ k → EndsFrom start (drop k xs)
EndsFrom-past start zero [] le = tt
EndsFrom-past start (suc k) [] le = tt
EndsFrom-past start zero (x ∷ xs) le = absurd (omega arith)
EndsFrom-past start (suc k) (x ∷ xs) le = EndsFrom-past start k xs (omega arith)

pub IsRest-later : (from to : ℕ) (xs ys : List (ℕ × ℕ)) → from ≤ to → IsRest from xs ys → IsRest to xs ys
IsRest-later from to xs ys le a = record {
  rises = a.rises;
  stays = a.stays;
  covers = a.covers;
  same = λ c ge. a.same c (omega arith);
  ends = λ f t ge. a.ends f t (omega arith);
}

pub no_member_below : (low : ℕ) (rs : List (ℕ × ℕ)) (c : ℕ) → RisesFrom low rs → c < low → is_member rs c ≡ false
no_member_below low [] c h lt = refl
no_member_below low (r ∷ rs) c h lt =
    let above = h.0 in
    let rises = h.1 in
    let x : (nat_le r.0 c && nat_le c r.1) ≡ false = grind (arith, nat_tests) in
    rw x (no_member_below (r.1 + 1) rs c h.2 (omega arith))

pub no_member_before : (low : ℕ) (rs : List (ℕ × ℕ)) (c : ℕ) → RisesFrom low rs → c < (get_or rs 0 (0, 0)).0 → is_member rs c ≡ false
no_member_before low [] c h lt = refl
no_member_before low (r ∷ rs) c h lt = no_member_below r.0 (r ∷ rs) c (omega arith, h.1, h.2) lt

pub first_member : (rs : List (ℕ × ℕ)) (c : ℕ) → 0 < length rs → (get_or rs 0 (0, 0)).0 ≤ c → c ≤ (get_or rs 0 (0, 0)).1 → is_member rs c ≡ true
first_member [] c some low high = absurd (omega arith)
first_member (r ∷ rs) c some low high =
    let x : (nat_le r.0 c && nat_le c r.1) ≡ true = grind (arith, nat_tests) in rw x refl

between-split : (a b c n : ℕ) → a ≤ b → b ≤ c → one_if (nat_le a n && nat_lt n c) ≡ one_if (nat_le a n && nat_lt n b) + one_if (nat_le b n && nat_lt n c)
between-split a b c n le le' =
    by_test (nat_lt n b)
    (λ x. let y : nat_le b n ≡ false = grind (arith, nat_tests) in let z : nat_lt n c ≡ true = grind (arith, nat_tests) in rw (x, y, z) (omega arith))
    (λ x. let y : nat_le b n ≡ true = grind (arith, nat_tests) in let z : nat_le a n ≡ true = grind (arith, nat_tests) in rw (x, y, z) (omega arith))

pub ends_in-split : (rs : List (ℕ × ℕ)) (a b c : ℕ) → a ≤ b → b ≤ c → ends_in rs a c ≡ ends_in rs a b + ends_in rs b c
ends_in-split [] a b c le le' = refl
ends_in-split (r ∷ rs) a b c le le' =
    let first = between-split a b c r.0 le le' in
    let last = narrow_or (is_narrow r) _ _ _ (between-split a b c r.1 le le') in
    let later = ends_in-split rs a b c le le' in
    omega arith
  where
    narrow_or : (t : Bool) (x y z : ℕ) → x ≡ y + z → (if t then 0 else x) ≡ (if t then 0 else y) + (if t then 0 else z)
    narrow_or true x y z e = refl
    narrow_or false x y z e = e

pub size_of_block-pos : (depth : ℕ) → 0 < size_of_block depth
unfolding size_of_block
size_of_block-pos zero = omega arith
size_of_block-pos (suc depth) = omega (arith, size_of_block-pos depth)

pub size_of_block-suc : (depth : ℕ) → 1 ≤ depth → size_of_block depth ≡ 64 * size_of_block (depth - 1)
unfolding size_of_block
size_of_block-suc zero h = absurd (omega arith)
size_of_block-suc (suc depth) h = let back : depth ≡ suc depth - 1 = omega arith in ap (λ (d : ℕ). 64 * size_of_block d) back

-- the sizes up to depth 3
pub sizes : (depth : ℕ) → depth ≤ 3 → (size_of_block depth ≡ 1) ⊎ ((size_of_block depth ≡ 64) ⊎ ((size_of_block depth ≡ 4096) ⊎ (size_of_block depth ≡ 262144)))
unfolding size_of_block
sizes zero le = inl refl
sizes (suc zero) le = inr (inl refl)
sizes (suc (suc zero)) le = inr (inr (inl refl))
sizes (suc (suc (suc zero))) le = inr (inr (inr refl))
sizes (suc (suc (suc (suc n)))) le = absurd (omega arith)

pub first_block : (a s : ℕ) → (s ≡ 1) ⊎ ((s ≡ 64) ⊎ ((s ≡ 4096) ⊎ (s ≡ 262144))) → (a + (s - 1)) / s * s + s ≤ a + 524288
first_block a s (inl e) = rw e (omega arith)
first_block a s (inr (inl e)) = rw e (omega arith)
first_block a s (inr (inr (inl e))) = rw e (omega arith)
first_block a s (inr (inr (inr e))) = rw e (omega arith)

pub small_size : (s : ℕ) → (s ≡ 1) ⊎ ((s ≡ 64) ⊎ ((s ≡ 4096) ⊎ (s ≡ 262144))) → s ≤ 262144
small_size s (inl e) = omega arith
small_size s (inr (inl e)) = omega arith
small_size s (inr (inr (inl e))) = omega arith
small_size s (inr (inr (inr e))) = omega arith

holds : {a b : ℕ} → a ≤ b → nat_le a b ≡ true
holds le = grind (arith, nat_tests)

has_block-true : (r : ℕ × ℕ) (depth start : ℕ) → depth ≤ 3 → start % size_of_block depth ≡ 0 → r.0 ≤ start → start + size_of_block depth ≤ r.1 + 1
    → has_block r depth ≡ true
has_block-true r depth start deep aligned low high = by_size (size_of_block depth) (sizes depth deep) aligned low high
  where
    by_size : (s : ℕ) → (s ≡ 1) ⊎ ((s ≡ 64) ⊎ ((s ≡ 4096) ⊎ (s ≡ 262144))) → start % s ≡ 0 → r.0 ≤ start → start + s ≤ r.1 + 1
        → nat_le ((r.0 + (s - 1)) / s * s + s) (r.1 + 1) ≡ true
    by_size s (inl e) aligned low high = let le : (r.0 + (1 - 1)) / 1 * 1 + 1 ≤ r.1 + 1 = omega arith in rw e (holds le)
    by_size s (inr (inl e)) aligned low high =
        let at = rw e at aligned in let fits = rw e at high in
        let le : (r.0 + (64 - 1)) / 64 * 64 + 64 ≤ r.1 + 1 = omega arith in rw e (holds le)
    by_size s (inr (inr (inl e))) aligned low high =
        let at = rw e at aligned in let fits = rw e at high in
        let le : (r.0 + (4096 - 1)) / 4096 * 4096 + 4096 ≤ r.1 + 1 = omega arith in rw e (holds le)
    by_size s (inr (inr (inr e))) aligned low high =
        let at = rw e at aligned in let fits = rw e at high in
        let le : (r.0 + (262144 - 1)) / 262144 * 262144 + 262144 ≤ r.1 + 1 = omega arith in rw e (holds le)

pub whole_depth-next : (r : ℕ × ℕ) (depth : ℕ) → 0 < depth → has_block r depth ≡ false → whole_depth depth r ≡ whole_depth (depth - 1) r
unfolding whole_depth
whole_depth-next r zero some none = absurd (omega arith)
whole_depth-next r (suc depth) some none = let back : suc depth - 1 ≡ depth = omega arith in rw (none, back) refl

pub whole_depth-here : (r : ℕ × ℕ) (depth : ℕ) → has_block r depth ≡ true → whole_depth depth r ≡ depth
unfolding whole_depth
whole_depth-here r zero has = refl
whole_depth-here r (suc depth) has = rw has refl

pub whole_depth-zero : (r : ℕ × ℕ) → whole_depth 0 r ≡ 0
unfolding whole_depth
whole_depth-zero r = refl

pub whole_depth-le : (deepest : ℕ) (r : ℕ × ℕ) → whole_depth deepest r ≤ deepest
unfolding whole_depth
whole_depth-le zero r = omega arith
whole_depth-le (suc depth) r =
    by_test (has_block r (suc depth)) (λ e. rw e (omega arith)) (λ e. rw e (let le = whole_depth-le depth r in omega arith))

pub whole_depth-enough : (deepest depth start : ℕ) (r : ℕ × ℕ) → deepest ≤ 3 → depth ≤ deepest → start % size_of_block depth ≡ 0 → r.0 ≤ start
    → start + size_of_block depth ≤ r.1 + 1 → depth ≤ whole_depth deepest r
unfolding whole_depth
whole_depth-enough zero depth start r deep le aligned low high = omega arith
whole_depth-enough (suc deepest) depth start r deep le aligned low high =
    by_test (has_block r (suc deepest))
    (λ e. rw e (omega arith))
    (λ e. rw e (by_test (depth == suc deepest)
    (λ same. let is : depth ≡ suc deepest = grind (arith, nat_tests) in
    absurd
    (true≢false
    (sym (has_block-true r (suc deepest) start deep (subst (λ d. start % size_of_block d ≡ 0) is aligned) low
    (subst (λ d. start + size_of_block d ≤ r.1 + 1) is high)) ∙ e)))
    (λ other. whole_depth-enough deepest depth start r (omega arith) (grind (arith, nat_tests)) aligned low high)))

pub CoversUpTo-more : (deepest n more : ℕ) (rs : List (ℕ × ℕ)) → n ≤ more → CoversUpTo deepest n rs → CoversUpTo deepest more rs
unfolding CoversUpTo
CoversUpTo-more deepest n more [] le h = tt
CoversUpTo-more deepest n more (r ∷ rs) le h =
    (λ depth start below aligned low high. (let lt = h.0 depth start below aligned low high in omega arith), CoversUpTo-more deepest n more rs le h.1)

pub CoversUpTo-push : (deepest n : ℕ) (rs : List (ℕ × ℕ)) (r : ℕ × ℕ) → deepest ≤ 3 → CoversUpTo deepest n rs → whole_depth deepest r < n
    → CoversUpTo deepest n (rs ++ r ∷ [])
unfolding CoversUpTo
CoversUpTo-push deepest n [] r deep h lt =
    (λ depth start below aligned low high. (let le = whole_depth-enough deepest depth start r deep below aligned low high in omega arith), tt)
CoversUpTo-push deepest n (x ∷ xs) r deep h lt = (h.0, CoversUpTo-push deepest n xs r deep h.1 lt)

pub CoversUpTo-nil : (deepest n : ℕ) → CoversUpTo deepest n []
unfolding CoversUpTo
CoversUpTo-nil deepest n = tt

pub whole_depths-push : (deepest : ℕ) (rs : List (ℕ × ℕ)) (r : ℕ × ℕ) → whole_depths deepest (rs ++ r ∷ []) ≡ whole_depths deepest rs + whole_depth deepest r
unfolding whole_depths
whole_depths-push deepest [] r = omega arith
whole_depths-push deepest (x ∷ xs) r = let later = whole_depths-push deepest xs r in omega arith

pub whole_depths-take : (deepest k : ℕ) (rs : List (ℕ × ℕ)) → whole_depths deepest (take k rs) ≤ whole_depths deepest rs
unfolding whole_depths
whole_depths-take deepest zero rs = omega arith
whole_depths-take deepest (suc k) [] = omega arith
whole_depths-take deepest (suc k) (r ∷ rs) = let later = whole_depths-take deepest k rs in omega arith

-- at one range more
pub take-next : (k : ℕ) (xs : List (ℕ × ℕ)) → k < length xs → take (k + 1) xs ≡ take k xs ++ get_or xs k (0, 0) ∷ []
take-next k [] lt = absurd (omega arith)
take-next zero (x ∷ xs) lt = refl
take-next (suc k) (x ∷ xs) lt = let e : suc k + 1 ≡ suc (k + 1) = omega arith in ap (λ n. take n (x ∷ xs)) e ∙ ap (λ ys. x ∷ ys) (take-next k xs (omega arith))

pub RisesFrom-at : (low k : ℕ) (xs : List (ℕ × ℕ)) → RisesFrom low xs → k < length xs → (get_or xs k (0, 0)).0 ≤ (get_or xs k (0, 0)).1
RisesFrom-at low k [] h lt = absurd (omega arith)
RisesFrom-at low zero (x ∷ xs) h lt = h.1
RisesFrom-at low (suc k) (x ∷ xs) h lt = RisesFrom-at (x.1 + 1) k xs h.2 (omega arith)

pub StaysBelow-at : (high k : ℕ) (xs : List (ℕ × ℕ)) → StaysBelow high xs → k < length xs → (get_or xs k (0, 0)).1 ≤ high
StaysBelow-at high k [] h lt = absurd (omega arith)
StaysBelow-at high zero (x ∷ xs) h lt = h.0
StaysBelow-at high (suc k) (x ∷ xs) h lt = StaysBelow-at high k xs h.1 (omega arith)

-- what is still to be clipped
pub clip-skip : (low high k : ℕ) (xs : List (ℕ × ℕ)) → k < length xs → ((get_or xs k (0, 0)).1 < low) ⊎ (high < (get_or xs k (0, 0)).0)
    → clip low high (drop k xs) ≡ clip low high (drop (k + 1) xs)
unfolding clip
clip-skip low high k xs lt out =
    let r = get_or xs k (0, 0) in
    let e : (nat_lt r.1 low || nat_lt high r.0) ≡ true = grind (arith, nat_tests) in
    let one : suc k ≡ k + 1 = omega arith in
    ap (clip low high) (drop-cons xs k (0, 0) lt) ∙ rw e refl ∙ ap (λ n. clip low high (drop n xs)) one

pub clip-keep : (low high k : ℕ) (xs : List (ℕ × ℕ)) → k < length xs → low ≤ (get_or xs k (0, 0)).1 → (get_or xs k (0, 0)).0 ≤ high
    → clip low high (drop k xs) ≡ (max low (get_or xs k (0, 0)).0, min high (get_or xs k (0, 0)).1) ∷ clip low high (drop (k + 1) xs)
unfolding clip
clip-keep low high k xs lt above below =
    let r = get_or xs k (0, 0) in
    let e : (nat_lt r.1 low || nat_lt high r.0) ≡ false = grind (arith, nat_tests) in
    let one : suc k ≡ k + 1 = omega arith in
    ap (clip low high) (drop-cons xs k (0, 0) lt) ∙ rw e (ap (λ n. (max low r.0, min high r.1) ∷ clip low high (drop n xs)) one)

pub clip-all : (low high : ℕ) (ys xs : List (ℕ × ℕ)) (k : ℕ) → length xs ≤ k → ys ++ clip low high (drop k xs) ≡ clip low high xs → ys ≡ clip low high xs
unfolding clip
clip-all low high ys xs k past e = sym (append-nil ys) ∙ ap (λ zs. ys ++ clip low high zs) (sym (drop_all k xs past)) ∙ e
