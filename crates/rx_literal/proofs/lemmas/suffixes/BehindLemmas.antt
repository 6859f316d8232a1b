-- What texts have in common, read from behind.
use Rattle.std.proofs.Common.{◌≡◌, ◌≢◌, ℕ, suc, ◌+◌, ◌-◌, ◌<◌, ◌≤◌, ◌⊎◌, true, false, List, [], ◌∷◌, ◌++◌, length, take, drop, get_or, Some, refl, sym, ap, ◌∙◌, inl, inr, arith, append-nil}
use Rattle.std.specs.Prelude.{nat_eq, reverse}
use Rattle.std.proofs.lemmas.Bool.Decides.{nat_tests}
use Rattle.std.proofs.lemmas.List.{get_or-reverse, get_or-take, reverse-append, reverse-reverse, length-reverse, take-append-drop, take_at, length-drop, length-take-le, take-take, drop_more}
use Rattle.rx_model.proofs.lemmas.runs.RunLemmas.{by_test}
use Rattle.rx_hir.proofs.JoinedLemmas.{drop-past}
use Rattle.rx_literal.specs.Literals.{Literal, finite, bytes_of}
use Rattle.rx_literal.specs.Trim.{common_prefix, common_from_behind, longest_common_suffix}

pub common-more : (xs ys : List ℕ) (i d e : ℕ) → i < length xs → i < length ys → get_or xs i d ≡ get_or ys i e
    → length (common_prefix (drop i xs) (drop i ys)) ≡ suc (length (common_prefix (drop (i + 1) xs) (drop (i + 1) ys)))
common-more xs ys i d e a b same =
    let t : nat_eq (get_or xs i d) (get_or ys i e) ≡ true = grind (arith, nat_tests) in
    (λ k. length (common_prefix (drop_more xs i d a k) (drop_more ys i e b k))) ∙ rw t refl

pub common-differ : (xs ys : List ℕ) (i d e : ℕ) → i < length xs → i < length ys → get_or xs i d ≢ get_or ys i e
    → length (common_prefix (drop i xs) (drop i ys)) ≡ 0
common-differ xs ys i d e a b differ =
    let t : nat_eq (get_or xs i d) (get_or ys i e) ≡ false = grind (arith, nat_tests) in
    (λ k. length (common_prefix (drop_more xs i d a k) (drop_more ys i e b k))) ∙ rw t refl

common-none : (xs : List ℕ) → common_prefix xs [] ≡ []
common-none [] = refl
common-none (x ∷ xs) = refl

pub common-over : (xs ys : List ℕ) (i : ℕ) → (length xs ≤ i) ⊎ (length ys ≤ i) → length (common_prefix (drop i xs) (drop i ys)) ≡ 0
common-over xs ys i over =
    elim over [
      | inl le ↦ ap (λ zs. length (common_prefix zs (drop i ys))) (drop-past xs i le)
      | inr le ↦ ap (λ zs. length (common_prefix (drop i xs) zs)) (drop-past ys i le) ∙ ap length (common-none (drop i xs))
    ]

pub common-take : (xs ys : List ℕ) → common_prefix xs ys ≡ take (length (common_prefix xs ys)) xs
common-take [] [] = refl
common-take [] (y ∷ ys) = refl
common-take (x ∷ xs) [] = refl
common-take (x ∷ xs) (y ∷ ys) =
    by_test (nat_eq x y) (λ e. rw e (ap (λ zs. x ∷ zs) (common-take xs ys))) (λ e. rw e refl)

-- one text more
pub behind-step : (r : List ℕ) (ls : List Literal) (i len n : ℕ) (l : Literal) (bytes : List ℕ) → i < length ls → l ≡ get_or ls i l → bytes ≡ bytes_of l
    → n ≡ length (common_prefix (take len r) (reverse bytes)) → n ≤ len
    → common_from_behind (take len r) (drop i ls) ≡ common_from_behind (take n r) (drop (i + 1) ls)
behind-step r ls i len n l bytes lt at of is le =
    let rest = drop (i + 1) ls in
    ap (common_from_behind (take len r)) (drop_more ls i l lt ∙ ap (λ m. m ∷ rest) (sym at))
    ∙ ap (λ bs. common_from_behind (common_prefix (take len r) (reverse bs)) rest) (sym of)
    ∙ ap (λ xs. common_from_behind xs rest) (common-take (take len r) (reverse bytes) ∙ ap (λ k. take k (take len r)) (sym is) ∙ shorter)
  where
    shorter : take n (take len r) ≡ take n r
    shorter = take-take n len r le

pub behind-end : (r : List ℕ) (ls : List Literal) (i len : ℕ) → length ls ≤ i → common_from_behind (take len r) (drop i ls) ≡ take len r
behind-end r ls i len le = ap (common_from_behind (take len r)) (drop-past ls i le)

-- the last bytes are the first ones from behind
pub last-bytes : (xs : List ℕ) (n : ℕ) → n ≤ length xs → drop (length xs - n) xs ≡ reverse (take n (reverse xs))
last-bytes xs n le =
    let front = take (length xs - n) xs in
    let back = drop (length xs - n) xs in
    let long : length (reverse (drop (length xs - n) xs)) ≡ n = length-reverse (drop (length xs - n) xs) ∙ length-drop (length xs - n) xs ∙ omega arith in
    let turned : reverse xs ≡ reverse back ++ reverse front = ap reverse (sym (take-append-drop (length xs - n) xs)) ∙ reverse-append front back in
    sym (ap (λ ys. reverse (take n ys)) turned ∙ ap reverse (take_at (reverse back) (reverse front) n long) ∙ reverse-reverse back)

module _ (first second : List ℕ) (most i whole : ℕ) (some : most ≤ length first)
    (before : i + length (common_prefix (drop i (take most (reverse first))) (drop i (reverse second))) ≡ whole) where
  long : length (take most (reverse first)) ≡ most
  long = length-take-le most (reverse first) (let e = length-reverse first in omega arith)

  first-byte : i < most → get_or (take most (reverse first)) i 0 ≡ get_or first (length first - 1 - i) 0
  first-byte lt = get_or-take most (reverse first) i 0 lt ∙ get_or-reverse first i 0 (omega arith)

  -- one byte more in common
  pub len-more : i < most → i < length second → get_or first (length first - 1 - i) 0 ≡ get_or second (length second - 1 - i) 0
      → i + 1 + length (common_prefix (drop (i + 1) (take most (reverse first))) (drop (i + 1) (reverse second))) ≡ whole
  len-more a b same =
      let l = long in
      let m = length-reverse second in
      let e =
      common-more (take most (reverse first)) (reverse second) i 0 0 (omega arith) (omega arith) (first-byte a ∙ same ∙ sym (get_or-reverse second i 0 b)) in
      omega (arith, before, e)

  pub len-differ : i < most → i < length second → get_or first (length first - 1 - i) 0 ≢ get_or second (length second - 1 - i) 0 → i ≡ whole
  len-differ a b differ =
      let l = long in
      let m = length-reverse second in
      let e = common-differ (take most (reverse first)) (reverse second) i 0 0 (omega arith) (omega arith)
      (λ same. differ (sym (first-byte a) ∙ same ∙ get_or-reverse second i 0 b)) in
      omega (arith, before, e)

  pub len-over : (most ≤ i) ⊎ (length second ≤ i) → i ≡ whole
  len-over over =
      let over' : (length (take most (reverse first)) ≤ i) ⊎ (length (reverse second) ≤ i)
      = elim over [ inl le ↦ inl (let l = long in omega arith) | inr le ↦ inr (let m = length-reverse second in omega arith) ] in
      let e = common-over (take most (reverse first)) (reverse second) i over' in
      omega (arith, before, e)

pub suffix-some : (ls : List Literal) (d : Literal) → 0 < length ls → longest_common_suffix (finite ls) ≡ Some
    (reverse (common_from_behind (reverse (bytes_of (get_or ls 0 d))) (drop 1 ls)))
suffix-some [] d lt = absurd (omega arith)
suffix-some (l ∷ ls) d lt = refl

pub suffix-none : (ls : List Literal) → length ls ≡ 0 → longest_common_suffix (finite ls) ≡ longest_common_suffix (finite [])
suffix-none [] e = refl
suffix-none (l ∷ ls) e = absurd (omega arith)

pub take-rest : {X : Type 0} (xs : List X) (k : ℕ) → take (length xs - k) (drop k xs) ≡ drop k xs
take-rest xs k = ap (take (length xs - k)) (sym (append-nil (drop k xs))) ∙ take_at (drop k xs) [] (length xs - k) (length-drop k xs)

pub whole-behind : (xs : List ℕ) → take (length xs) (reverse xs) ≡ reverse xs
whole-behind xs = ap (take (length xs)) (sym (append-nil (reverse xs))) ∙ take_at (reverse xs) [] (length xs) (length-reverse xs)
