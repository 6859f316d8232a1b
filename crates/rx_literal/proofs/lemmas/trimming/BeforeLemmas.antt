-- Bytes in order, and prefixes.
use Rattle.std.proofs.Common.{◌≡◌, ◌≢◌, ℕ, ◌+◌, ◌<◌, ◌≤◌, ◌⊎◌, Bool, true, false, ◌&&◌, List, [], ◌∷◌, length, drop, get_or}
use Rattle.std.proofs.Common.{refl, sym, ap, ◌∙◌, inl, inr, arith, true≢false}
use Rattle.std.specs.Prelude.{nat_lt, nat_eq, ◌||◌}
use Rattle.std.specs.List.{starts_with}
use Rattle.std.proofs.lemmas.Bool.Decides.{nat_tests}
use Rattle.std.proofs.lemmas.List.{drop_more}
use Rattle.rx_model.proofs.lemmas.runs.RunLemmas.{by_test}
use Rattle.rx_hir.proofs.JoinedLemmas.{drop-past}
use Rattle.rx_literal.specs.declared.order.Order.{Order}
use Rattle.rx_literal.specs.declared.order.Order.TheVariants.{Bytes as by_bytes, Branches as by_branches}
use Rattle.rx_literal.specs.Order.{has_prefix_first, before}
use Rattle.rx_literal.specs.Trim.{comes_before}
use Rattle.std.proofs.Math.Bool.{and-true, and-false}

pub untrue : {P : Type 0} (b : Bool) → b ≡ true → b ≡ false → P
untrue b h n = absurd (true≢false (sym h ∙ n))

pub test-cases : (x y : ℕ) (b : Bool) → (nat_lt x y || (nat_eq x y && b)) ≡ true → (x < y) ⊎ ((x ≡ y) × (b ≡ true))
test-cases x y b h =
    by_test (nat_lt x y)
    (λ e. inl (grind (arith, nat_tests)))
    (λ e. by_test (nat_eq x y)
    (λ d. inr (grind (arith, nat_tests), rw (e, d) at h))
    (λ d. absurd (true≢false (sym (rw (e, d) at h)))))

pub test-less : (x y : ℕ) (b : Bool) → x < y → (nat_lt x y || (nat_eq x y && b)) ≡ true
test-less x y b lt = let e : nat_lt x y ≡ true = grind (arith, nat_tests) in rw e refl

pub test-same : (x y : ℕ) (b : Bool) → x ≡ y → (nat_lt x y || (nat_eq x y && b)) ≡ b
test-same x y b is =
    let e : nat_lt x y ≡ false = grind (arith, nat_tests) in
    let d : nat_eq x y ≡ true = grind (arith, nat_tests) in
    rw (e, d) refl

pub test-differ : (x y : ℕ) (b : Bool) → x ≢ y → (nat_lt x y || (nat_eq x y && b)) ≡ nat_lt x y
test-differ x y b not =
    let d : nat_eq x y ≡ false = grind (arith, nat_tests) in
    by_test (nat_lt x y) (λ e. rw e refl) (λ e. rw (e, d) refl)

pub before-trans : (order : Order) (a b c : List ℕ) → before order a b ≡ true → before order b c ≡ true → before order a c ≡ true
before-trans order [] [] c p q = absurd (true≢false (sym p))
before-trans order [] (y ∷ b) [] p q = absurd (true≢false (sym q))
before-trans order [] (y ∷ b) (z ∷ c) p q = p
before-trans order (x ∷ a) [] c p q = absurd (true≢false (sym p))
before-trans order (x ∷ a) (y ∷ b) [] p q = absurd (true≢false (sym q))
before-trans order (x ∷ a) (y ∷ b) (z ∷ c) p q =
    elim (test-cases x y (before order a b) p) [
      | inl lt ↦ elim (test-cases y z (before order b c) q) [
        | inl less ↦ test-less x z (before order a c) (omega arith)
        | inr same ↦ (let is = same.0 in test-less x z (before order a c) (omega arith))
      ]
      | inr here ↦ elim (test-cases y z (before order b c) q) [
        | inl less ↦ (let is = here.0 in test-less x z (before order a c) (omega arith))
        | inr same ↦ test-same x z (before order a c) (here.0 ∙ same.0) ∙ before-trans order a b c here.1 same.1
      ]
    ]

pub before-self : (order : Order) (a : List ℕ) → before order a a ≡ false
before-self order [] = refl
before-self order (x ∷ a) = test-same x x (before order a a) refl ∙ before-self order a

pub before-one : (order : Order) (a b : List ℕ) → before order a b ≡ true → before order b a ≡ false
before-one order a b h =
    by_test (before order b a)
    (λ e. untrue (before order a a) (before-trans order a b a h e) (before-self order a))
    (λ e. e)

pub bytes-before : (xs ys : List ℕ) → before by_bytes xs ys ≡ comes_before xs ys
bytes-before [] [] = refl
bytes-before [] (y ∷ ys) = refl
bytes-before (x ∷ xs) [] = refl
bytes-before (x ∷ xs) (y ∷ ys) = ap (λ b. nat_lt x y || (nat_eq x y && b)) (bytes-before xs ys)

-- where neither comes before the other they are the same
pub bytes-same : (xs ys : List ℕ) → before by_bytes xs ys ≡ false → before by_bytes ys xs ≡ false → xs ≡ ys
bytes-same [] [] p q = refl
bytes-same [] (y ∷ ys) p q = absurd (true≢false p)
bytes-same (x ∷ xs) [] p q = absurd (true≢false q)
bytes-same (x ∷ xs) (y ∷ ys) p q =
    by_test (nat_lt x y)
    (λ e. absurd (true≢false (rw e at p)))
    (λ e. by_test (nat_lt y x)
    (λ d. absurd (true≢false (rw d at q)))
    (λ d.
    let is : x ≡ y = grind (arith, nat_tests) in
    (λ k. is k ∷ bytes-same xs ys (sym (test-same x y (before by_bytes xs ys) is) ∙ p) (sym (test-same y x (before by_bytes ys xs) (sym is)) ∙ q) k)))

before-none : (order : Order) (xs : List ℕ) → before order xs [] ≡ false
before-none order [] = refl
before-none order (x ∷ xs) = refl

-- where one of them ends
pub before-over : (order : Order) (xs ys : List ℕ) (i : ℕ) → i ≤ length xs → i ≤ length ys → (length xs ≤ i) ⊎ (length ys ≤ i)
    → before order (drop i xs) (drop i ys) ≡ (has_prefix_first order && nat_lt (length xs) (length ys))
before-over order xs ys i a b over =
    elim over [
      | inl past ↦
          ap (λ zs. before order zs (drop i ys)) (drop-past xs i past)
          ∙ by_test (nat_lt (length xs) (length ys))
          (λ e. let lt : i < length ys = grind (arith, nat_tests) in
          rw e (ap (before order []) (drop_more ys i 0 lt) ∙ sym (and-true (has_prefix_first order))))
          (λ e. let le : length ys ≤ i = grind (arith, nat_tests) in rw e (ap (before order []) (drop-past ys i le) ∙ sym (and-false (has_prefix_first order))))
      | inr past ↦
          let e : nat_lt (length xs) (length ys) ≡ false = grind (arith, nat_tests) in
          rw e (ap (before order (drop i xs)) (drop-past ys i past) ∙ before-none order (drop i xs) ∙ sym (and-false (has_prefix_first order)))
    ]

-- the first is a prefix of the second
abbrev pub begins : List ℕ → List ℕ → Bool
begins [] ys = true
begins (x ∷ xs) [] = false
begins (x ∷ xs) (y ∷ ys) = nat_eq x y && begins xs ys

pub starts-begins : (ys xs : List ℕ) → starts_with nat_eq ys xs ≡ begins xs ys
starts-begins ys [] = refl
starts-begins [] (x ∷ xs) = refl
starts-begins (y ∷ ys) (x ∷ xs) = ap (λ b. nat_eq x y && b) (starts-begins ys xs)

pub begins-cases : (x y : ℕ) (b : Bool) → (nat_eq x y && b) ≡ true → (x ≡ y) × (b ≡ true)
begins-cases x y b h = by_test (nat_eq x y) (λ e. (grind (arith, nat_tests), rw e at h)) (λ e. absurd (true≢false (sym (rw e at h))))

begins-same : (x y : ℕ) (b : Bool) → x ≡ y → (nat_eq x y && b) ≡ b
begins-same x y b is = let e : nat_eq x y ≡ true = grind (arith, nat_tests) in rw e refl

pub begins-trans : (a b c : List ℕ) → begins a b ≡ true → begins b c ≡ true → begins a c ≡ true
begins-trans [] b c p q = refl
begins-trans (x ∷ a) [] c p q = absurd (true≢false (sym p))
begins-trans (x ∷ a) (y ∷ b) [] p q = absurd (true≢false (sym q))
begins-trans (x ∷ a) (y ∷ b) (z ∷ c) p q =
    let here = begins-cases x y (begins a b) p in
    let there = begins-cases y z (begins b c) q in
    begins-same x z (begins a c) (here.0 ∙ there.0) ∙ begins-trans a b c here.1 there.1

-- what branches off before isn't a prefix
pub branch-apart : (a b : List ℕ) → before by_branches a b ≡ true → begins a b ≡ false
branch-apart [] [] h = absurd (true≢false (sym h))
branch-apart [] (y ∷ b) h = absurd (true≢false (sym h))
branch-apart (x ∷ a) [] h = refl
branch-apart (x ∷ a) (y ∷ b) h =
    elim (test-cases x y (before by_branches a b) h) [
      | inl lt ↦ (let e : nat_eq x y ≡ false = grind (arith, nat_tests) in rw e refl)
      | inr same ↦ begins-same x y (begins a b) same.0 ∙ branch-apart a b same.1
    ]

-- and it branches off before all that the other begins
pub branch-longer : (a b c : List ℕ) → before by_branches a b ≡ true → begins b c ≡ true → before by_branches a c ≡ true
branch-longer [] [] c p q = absurd (true≢false (sym p))
branch-longer [] (y ∷ b) c p q = absurd (true≢false (sym p))
branch-longer (x ∷ a) [] c p q = absurd (true≢false (sym p))
branch-longer (x ∷ a) (y ∷ b) [] p q = absurd (true≢false (sym q))
branch-longer (x ∷ a) (y ∷ b) (z ∷ c) p q =
    let there = begins-cases y z (begins b c) q in
    elim (test-cases x y (before by_branches a b) p) [
      | inl lt ↦ (let is = there.0 in test-less x z (before by_branches a c) (omega arith))
      | inr same ↦ test-same x z (before by_branches a c) (same.0 ∙ there.0) ∙ branch-longer a b c same.1 there.1
    ]

-- the three other cases are left out
pub branch-after : (a b : List ℕ) → before by_branches a b ≡ false → begins a b ≡ false → begins b a ≡ false → before by_branches b a ≡ true
branch-after [] b p q r = absurd (true≢false q)
branch-after (x ∷ a) [] p q r = absurd (true≢false r)
branch-after (x ∷ a) (y ∷ b) p q r =
    by_test (nat_lt x y)
    (λ e. absurd (true≢false (rw e at p)))
    (λ e. by_test (nat_eq x y)
    (λ d.
    let is : x ≡ y = grind (arith, nat_tests) in
    test-same y x (before by_branches b a) (sym is)
    ∙ branch-after a b (sym (test-same x y (before by_branches a b) is) ∙ p) (sym (begins-same x y (begins a b) is) ∙ q)
    (sym (begins-same y x (begins b a) (sym is)) ∙ r))
    (λ d. test-less y x (before by_branches b a) (grind (arith, nat_tests))))

-- where the next bytes differ
pub before-differ : (order : Order) (xs ys : List ℕ) (i : ℕ) → i < length xs → i < length ys → get_or xs i 0 ≢ get_or ys i 0
    → before order (drop i xs) (drop i ys) ≡ nat_lt (get_or xs i 0) (get_or ys i 0)
before-differ order xs ys i a b differ =
    (λ k. before order (drop_more xs i 0 a k) (drop_more ys i 0 b k))
    ∙ test-differ (get_or xs i 0) (get_or ys i 0) (before order (drop (i + 1) xs) (drop (i + 1) ys)) differ

-- where they are the same
pub before-on : (order : Order) (xs ys : List ℕ) (i : ℕ) → i < length xs → i < length ys → get_or xs i 0 ≡ get_or ys i 0
    → before order (drop i xs) (drop i ys) ≡ before order (drop (i + 1) xs) (drop (i + 1) ys)
before-on order xs ys i a b same =
    (λ k. before order (drop_more xs i 0 a k) (drop_more ys i 0 b k))
    ∙ test-same (get_or xs i 0) (get_or ys i 0) (before order (drop (i + 1) xs) (drop (i + 1) ys)) same
