-- The part that consumes last, or first, told by its place.
use Rattle.std.proofs.Common.{◌≡◌, ℕ, zero, suc, ◌+◌, ◌<◌, ◌≤◌, Bool, true, false, List, [], ◌∷◌, ◌++◌, length, get_or, take, drop, Option, Some, None, refl, sym, ap, subst, ◌∙◌, arith}
use Rattle.std.specs.Prelude.{◌==◌, ◌&&◌, ◌||◌, ◌^◌, not, nat_le, nat_lt}
use Rattle.std.proofs.Math.Bool.{and_assoc}
use Rattle.std.proofs.lemmas.Bool.{and_parts}
use Rattle.std.proofs.lemmas.Bool.Decides.{nat_tests}
use Rattle.std.proofs.lemmas.List.{take_more, get_or_default}
use Rattle.rx_model.specs.Text.{Class}
use Rattle.rx_model.specs.Length.{plus}
use Rattle.rx_model.specs.Expression.{Expression, concat, empty, repetition}
use Rattle.rx_hir.specs.Length.{maximum_len, sum_of_maximum_len, in_64_bits}
use Rattle.rx_hir.specs.Normal.{is_zero, expressions}
use Rattle.rx_hir.proofs.JoinedLemmas.{expressions-drop}
use Rattle.rx_model.proofs.lemmas.runs.RunLemmas.{by_test}
use Rattle.rx_order.specs.Places.{part_at, AreStill, IsConsuming, IsLastConsuming, IsFirstConsuming, separates_at}
use Rattle.rx_order.specs.Tests.{is_apart, all_apart, plain_class, separator_class, is_last_consuming, last_class, are_apart_but_last, first_class, are_apart_but_first, literals_are_apart, passes, has_two, has_last_separator, has_first_separator}

-- a sum of bounds is 0 exactly where both are
sum-test : (m n : ℕ) → (m + n == 0) ≡ ((m == 0) && (n == 0))
sum-test m n =
    by_test (m == 0)
    (λ e. let z : m ≡ 0 = grind (arith, nat_tests) in let same : m + n ≡ n = omega arith in rw e (ap (λ k. k == 0) same))
    (λ e. let f : (m + n == 0) ≡ false = grind (arith, nat_tests) in rw (e, f) refl)

no-and : (a : Bool) → (a && false) ≡ false
no-and true = refl
no-and false = refl

zero-sum : (a b : Option ℕ) → is_zero (plus a b) ≡ (is_zero a && is_zero b)
zero-sum None b = refl
zero-sum (Some m) None = sym (no-and (m == 0))
zero-sum (Some m) (Some n) = sum-test m n

-- a list with a consuming part consumes
consuming-sum : (parts : List Expression) (n : ℕ) → IsConsuming n parts → is_zero (sum_of_maximum_len (expressions parts)) ≡ false
consuming-sum [] n is = absurd (let lt = is.0 in omega arith)
consuming-sum (h ∷ hs) zero is =
    zero-sum (maximum_len h) (sum_of_maximum_len (expressions hs)) ∙ ap (λ b. b && is_zero (sum_of_maximum_len (expressions hs))) is.1
consuming-sum (h ∷ hs) (suc n) is =
    zero-sum (maximum_len h) (sum_of_maximum_len (expressions hs))
    ∙ ap (λ b. is_zero (maximum_len h) && b) (consuming-sum hs n (let lt = is.0 in (omega arith, is.1))) ∙ no-and (is_zero (maximum_len h))

-- what isn't the last
not-last : (h : Expression) (hs : List Expression) (n : ℕ) → IsConsuming n hs → is_last_consuming h (expressions hs) ≡ false
not-last h hs n is = ap (λ b. b && not (is_zero (maximum_len h))) (consuming-sum hs n is)

-- and what is
is-last : (h : Expression) (hs : List Expression) → is_zero (maximum_len h) ≡ false → AreStill hs → is_last_consuming h (expressions hs) ≡ true
is-last h hs consuming still = rw (still, consuming) refl

last-place : (parts : List Expression) (n : ℕ) → IsConsuming n parts → AreStill (drop (suc n) parts)
    → (last_class (expressions parts) ≡ separator_class (part_at n parts))
    × ((k : Class) → are_apart_but_last k (expressions parts) ≡ (all_apart k (expressions (take n parts)) && all_apart k (expressions (drop (suc n) parts))))
unfolding last_class are_apart_but_last is_apart
last-place [] n is still = absurd (let lt = is.0 in omega arith)
last-place (h ∷ hs) zero is still =
    let last = is-last h hs is.1 still in
    (rw last refl, λ k. rw last refl)
last-place (h ∷ hs) (suc n) is still =
    let more = not-last h hs n (let lt = is.0 in (omega arith, is.1)) in
    let later = last-place hs n (let lt = is.0 in (omega arith, is.1)) still in (
      rw more later.0,
      λ k. rw more (ap (λ b. is_apart k h && b) (later.1 k)
          ∙ sym (and_assoc (is_apart k h) (all_apart k (expressions (take n hs))) (all_apart k (expressions (drop (suc n) hs))))),
    )

none-last : (parts : List Expression) → AreStill parts → last_class (expressions parts) ≡ None
unfolding last_class
none-last [] still = refl
none-last (h ∷ hs) still =
    let both = and_parts (is_zero (maximum_len h)) (is_zero (sum_of_maximum_len (expressions hs)))
    (sym (zero-sum (maximum_len h) (sum_of_maximum_len (expressions hs))) ∙ still) in
    rw (both.1, both.0) (none-last hs both.1)

first-place : (parts : List Expression) (n : ℕ) → IsConsuming n parts → AreStill (take n parts)
    → (first_class (expressions parts) ≡ separator_class (part_at n parts))
    × ((k : Class) → are_apart_but_first k (expressions parts) ≡ (all_apart k (expressions (take n parts)) && all_apart k (expressions (drop (suc n) parts))))
unfolding first_class are_apart_but_first is_apart
first-place [] n is still = absurd (let lt = is.0 in omega arith)
first-place (h ∷ hs) zero is still = (rw is.1 refl, λ k. rw is.1 refl)
first-place (h ∷ hs) (suc n) is still =
    let both = and_parts (is_zero (maximum_len h)) (is_zero (sum_of_maximum_len (expressions (take n hs))))
    (sym (zero-sum (maximum_len h) (sum_of_maximum_len (expressions (take n hs)))) ∙ still) in
    let later = first-place hs n (let lt = is.0 in (omega arith, is.1)) both.1 in (
      rw both.0 later.0,
      λ k. rw both.0 (ap (λ b. is_apart k h && b) (later.1 k)
          ∙ sym (and_assoc (is_apart k h) (all_apart k (expressions (take n hs))) (all_apart k (expressions (drop (suc n) hs))))),
    )

none-first : (parts : List Expression) → AreStill parts → first_class (expressions parts) ≡ None
unfolding first_class
none-first [] still = refl
none-first (h ∷ hs) still =
    let both = and_parts (is_zero (maximum_len h)) (is_zero (sum_of_maximum_len (expressions hs)))
    (sym (zero-sum (maximum_len h) (sum_of_maximum_len (expressions hs))) ∙ still) in
    rw both.0 (none-first hs both.1)

are-two : (parts : List Expression) → 1 < length parts → has_two (expressions parts) ≡ true
are-two [] lt = absurd (omega arith)
are-two (h ∷ []) lt = absurd (omega arith)
are-two (h ∷ g ∷ hs) lt = refl

are-few : (parts : List Expression) → length parts < 2 → has_two (expressions parts) ≡ false
are-few [] lt = refl
are-few (h ∷ []) lt = refl
are-few (h ∷ g ∷ hs) lt = absurd (omega arith)

module _ (parts : List Expression) (ls : List (List ℕ)) where
  pub last-some : (n : ℕ) → 1 < length parts → IsLastConsuming parts (Some n) → separates_at n parts ls ≡ has_last_separator (concat (expressions parts)) ls
  unfolding has_last_separator
  last-some n two is =
      let e : n + 1 ≡ suc n = omega arith in
      let place = last-place parts n is.0 (subst (λ m. AreStill (drop m parts)) e is.1) in
      sym (ap (λ b. b && passes (last_class (expressions parts)) (λ k. are_apart_but_last k (expressions parts) && literals_are_apart k ls)) (are-two parts two)
      ∙ (λ i. passes (place.0 i) (λ k. place.1 k i && literals_are_apart k ls))
      ∙ (λ i. passes (separator_class (part_at n parts)) (λ k. (all_apart k (expressions (take n parts)) && all_apart k (expressions (drop (sym e i) parts)))
      && literals_are_apart k ls)))

  pub last-none : 1 < length parts → IsLastConsuming parts None → false ≡ has_last_separator (concat (expressions parts)) ls
  unfolding has_last_separator
  last-none two still =
      sym (ap (λ b. b && passes (last_class (expressions parts)) (λ k. are_apart_but_last k (expressions parts) && literals_are_apart k ls)) (are-two parts two)
      ∙ ap (λ o. passes o (λ k. are_apart_but_last k (expressions parts) && literals_are_apart k ls)) (none-last parts still))

  pub first-some : (n : ℕ) → 1 < length parts → IsFirstConsuming parts (Some n) → separates_at n parts ls ≡ has_first_separator (concat (expressions parts)) ls
  unfolding has_first_separator
  first-some n two is =
      let e : n + 1 ≡ suc n = omega arith in
      let place = first-place parts n is.0 is.1 in
      sym (ap (λ b. b && passes (first_class (expressions parts)) (λ k. are_apart_but_first k (expressions parts) && literals_are_apart k ls))
      (are-two parts two)
      ∙ (λ i. passes (place.0 i) (λ k. place.1 k i && literals_are_apart k ls))
      ∙ (λ i. passes (separator_class (part_at n parts)) (λ k. (all_apart k (expressions (take n parts)) && all_apart k (expressions (drop (sym e i) parts)))
      && literals_are_apart k ls)))

  pub first-none : 1 < length parts → IsFirstConsuming parts None → false ≡ has_first_separator (concat (expressions parts)) ls
  unfolding has_first_separator
  first-none two still =
      sym (ap (λ b. b && passes (first_class (expressions parts)) (λ k. are_apart_but_first k (expressions parts) && literals_are_apart k ls))
      (are-two parts two)
      ∙ ap (λ o. passes o (λ k. are_apart_but_first k (expressions parts) && literals_are_apart k ls)) (none-first parts still))

  -- of fewer than two parts none separates
  pub few-none : length parts < 2 → false ≡ (has_last_separator (concat (expressions parts)) ls || has_first_separator (concat (expressions parts)) ls)
  unfolding has_last_separator has_first_separator
  few-none lt = rw (are-few parts lt) refl

-- the parts from a place on that are still, as a loop from the right adds them
pub still-back : (parts : List Expression) (i : ℕ) (h : Expression) → i < length parts → h ≡ get_or parts i h → is_zero (maximum_len h) ≡ true
    → AreStill (drop (i + 1) parts) → AreStill (drop i parts)
still-back parts i h lt at nil later =
    ap (λ ys. is_zero (sum_of_maximum_len ys)) (expressions-drop parts i h lt at)
    ∙ zero-sum (maximum_len h) (sum_of_maximum_len (expressions (drop (i + 1) parts))) ∙ rw (nil, later) refl

still-on : (xs ys : List Expression) → AreStill xs → AreStill ys → AreStill (xs ++ ys)
still-on [] ys first later = later
still-on (x ∷ xs) ys first later =
    let both = and_parts (is_zero (maximum_len x)) (is_zero (sum_of_maximum_len (expressions xs)))
    (sym (zero-sum (maximum_len x) (sum_of_maximum_len (expressions xs))) ∙ first) in
    zero-sum (maximum_len x) (sum_of_maximum_len (expressions (xs ++ ys))) ∙ rw (both.0, still-on xs ys both.1 later) refl

-- .. and as one from the left does
pub still-more : (parts : List Expression) (i : ℕ) (h : Expression) → i < length parts → h ≡ get_or parts i h → is_zero (maximum_len h) ≡ true
    → AreStill (take i parts) → AreStill (take (i + 1) parts)
still-more parts i h lt at nil before =
    let one : AreStill (h ∷ []) = zero-sum (maximum_len h) (Some 0) ∙ rw nil refl in
    subst AreStill (sym (take_more parts i h lt ∙ ap (λ y. take i parts ++ y ∷ []) (sym at))) (still-on (take i parts) (h ∷ []) before one)

-- the part at a place, whatever stands for a place that isn't there
pub part-is : (parts : List Expression) (i : ℕ) (h : Expression) → i < length parts → h ≡ get_or parts i h → part_at i parts ≡ h
part-is parts i h lt at = get_or_default parts i empty h lt ∙ sym at

-- the greatest length that a program tells is 0 just where the length is
pub told-zero : (o : Option ℕ) → is_zero (in_64_bits o) ≡ is_zero o
told-zero None = refl
told-zero (Some n) = by_test (nat_lt n (2 ^ 64)) (λ e. rw e refl) (λ e. let f : (n == 0) ≡ false = above (2 ^ 64) (omega arith) e in rw (e, f) refl)
  where
    above : (m : ℕ) → 0 < m → nat_lt n m ≡ false → (n == 0) ≡ false
    above m lt e = grind (arith, nat_tests)

-- a number is above 0 just where it isn't 0
pub above-zero : (n : ℕ) → nat_lt 0 n ≡ not (is_zero (Some n))
above-zero n =
    by_test (n == 0)
    (λ e. let f : nat_lt 0 n ≡ false = grind (arith, nat_tests) in rw (e, f) refl)
    (λ e. let f : nat_lt 0 n ≡ true = grind (arith, nat_tests) in rw (e, f) refl)

pub zero-from : (b : Bool) → not b ≡ false → b ≡ true
zero-from true e = refl
zero-from false e = sym e

-- the class of copies, of which there may be none
pub copies-none : (least : ℕ) (most : Option ℕ) (greedy : Bool) (sub : Expression) → least ≡ 0 → None ≡ separator_class (repetition least most greedy sub)
unfolding separator_class
copies-none least most greedy sub e = let none : nat_le 1 least ≡ false = grind (arith, nat_tests) in rw none refl

-- .. or is one
pub copies-some : (least : ℕ) (most : Option ℕ) (greedy : Bool) (sub : Expression) → 1 ≤ least
    → plain_class sub ≡ separator_class (repetition least most greedy sub)
unfolding separator_class
copies-some least most greedy sub le = let some : nat_le 1 least ≡ true = grind (arith, nat_tests) in rw some refl
