-- Sums over the views of a table, of which a step changes one.
use Rattle.std.proofs.Common.{◌≡◌, ◌≢◌, ℕ, zero, suc, ◌+◌, ◌<◌, ◌≤◌, List, [], ◌∷◌, ◌++◌, length, get_or, set, sym, refl, ap, subst, arith, count_by, Contains, ◌==◌, if◌then◌else◌}
use Rattle.std.specs.List.{sum_by}
use Rattle.std.proofs.lemmas.List.Sums.{sum_by-set, sum_by-cons, sum_by-append, get_or-le-sum_by}
use Rattle.std.proofs.lemmas.Bool.Decides.{nat_tests}
use mathlib.Core.Option.{some, some-injective, some-ne-none}
use mathlib.Core.Logic.{dite}
use native.Mathlib.Decide.{ℕ_discrete}
use lib.ListN.{get_elem?}

module _ {V : Type 0} where
  pub at_get : (vs : List V) (id : ℕ) (v : V) → get_elem? vs id ≡ some v → (id < length vs) × (get_or vs id v ≡ v)
  at_get [] id v e = absurd (some-ne-none v (sym e))
  at_get (x ∷ xs) zero v e = (omega arith, some-injective x v e)
  at_get (x ∷ xs) (suc id) v e = let h = at_get xs id v e in (omega (arith, h.0), h.1)

  -- a sum changes by what the new view has in place of the old one
  pub sum_changes : (f : V → ℕ) (vs : List V) (id : ℕ) (v w : V) → get_elem? vs id ≡ some v → sum_by f (set vs id w) + f v ≡ sum_by f vs + f w
  sum_changes f vs id v w e =
      let h = at_get vs id v e in
      let changed : sum_by f (set vs id w) + f (get_or vs id v) ≡ sum_by f vs + f w = sum_by-set f vs id w v h.0 in
      rw h.1 at changed

  pub sum_gains : (f : V → ℕ) (vs : List V) (w : V) → sum_by f (vs ++ w ∷ []) ≡ sum_by f vs + f w
  sum_gains f vs w = omega (arith, sum_by-append f vs (w ∷ []), sum_by-cons f w [])

  pub at_least : (f : V → ℕ) (vs : List V) (id : ℕ) (v : V) → get_elem? vs id ≡ some v → f v ≤ sum_by f vs
  at_least f [] id v e = absurd (some-ne-none v (sym e))
  at_least f (x ∷ xs) zero v e = let same : f x ≡ f v = ap f (some-injective x v e) in omega (arith, same, sum_by-cons f x xs)
  at_least f (x ∷ xs) (suc id) v e = omega (arith, at_least f xs id v e, sum_by-cons f x xs)

  pub two_at_least : (f : V → ℕ) (vs : List V) (i j : ℕ) (v w : V) → i ≢ j → get_elem? vs i ≡ some v → get_elem? vs j ≡ some w → f v + f w ≤ sum_by f vs
  two_at_least f [] i j v w ne at_i at_j = absurd (some-ne-none v (sym at_i))
  two_at_least f (x ∷ xs) zero zero v w ne at_i at_j = absurd (ne refl)
  two_at_least f (x ∷ xs) zero (suc j) v w ne at_i at_j =
      let same : f x ≡ f v = ap f (some-injective x v at_i) in omega (arith, same, at_least f xs j w at_j, sum_by-cons f x xs)
  two_at_least f (x ∷ xs) (suc i) zero v w ne at_i at_j =
      let same : f x ≡ f w = ap f (some-injective x w at_j) in omega (arith, same, at_least f xs i v at_i, sum_by-cons f x xs)
  two_at_least f (x ∷ xs) (suc i) (suc j) v w ne at_i at_j =
      omega (arith, two_at_least f xs i j v w (λ e. ne (ap suc e)) at_i at_j, sum_by-cons f x xs)

  -- where the sum is not 0, a view counts
  pub one_counts : (f : V → ℕ) (vs : List V) → 0 < sum_by f vs → (id : ℕ) × (v : V) × (get_elem? vs id ≡ some v) × (0 < f v)
  one_counts f [] some_sum = absurd (omega arith)
  one_counts f (x ∷ xs) some_sum = dite (ℕ_discrete (f x) 0)
      (λ nothing. let there = one_counts f xs (omega (arith, nothing, some_sum, sum_by-cons f x xs)) in (suc there.0, there.1, there.2, there.3))
      (λ counts. (zero, x, refl, omega (arith, counts)))

  ones_at_most : (f : V → ℕ) (vs : List V) → ((v : V) → f v ≤ 1) → sum_by f vs ≤ length vs
  ones_at_most f [] one = omega arith
  ones_at_most f (x ∷ xs) one = omega (arith, one x, ones_at_most f xs one, sum_by-cons f x xs)

  -- where each view counts for one at most, and one of them for nothing
  pub one_missing : (f : V → ℕ) (vs : List V) (id : ℕ) (v : V) → ((w : V) → f w ≤ 1) → get_elem? vs id ≡ some v → f v ≡ 0 → sum_by f vs + 1 ≤ length vs
  one_missing f [] id v one e nothing = absurd (some-ne-none v (sym e))
  one_missing f (x ∷ xs) zero v one e nothing =
      let same : f x ≡ f v = ap f (some-injective x v e) in omega (arith, same, nothing, ones_at_most f xs one, sum_by-cons f x xs)
  one_missing f (x ∷ xs) (suc id) v one e nothing = omega (arith, one x, one_missing f xs id v one e nothing, sum_by-cons f x xs)

-- how many of the numbers are x
pub times_cons : (x n : ℕ) (xs : List ℕ) → count_by (λ y. y == x) (n ∷ xs) ≡ (if n == x then 1 else 0) + count_by (λ y. y == x) xs
times_cons x n xs = sum_by-cons (λ (y : ℕ). if y == x then 1 else 0) n xs

pub times_append : (x : ℕ) (xs ys : List ℕ) → count_by (λ y. y == x) (xs ++ ys) ≡ count_by (λ y. y == x) xs + count_by (λ y. y == x) ys
times_append x xs ys = sum_by-append (λ (y : ℕ). if y == x then 1 else 0) xs ys

-- how many of the pairs have x as their first
pub firsts_cons : (x : ℕ) (h : ℕ × ℕ) (hs : List (ℕ × ℕ))
    → count_by (λ (y : ℕ × ℕ). y.0 == x) (h ∷ hs) ≡ (if h.0 == x then 1 else 0) + count_by (λ (y : ℕ × ℕ). y.0 == x) hs
firsts_cons x h hs = sum_by-cons (λ (y : ℕ × ℕ). if y.0 == x then 1 else 0) h hs

pub firsts_append : (x : ℕ) (hs js : List (ℕ × ℕ))
    → count_by (λ (y : ℕ × ℕ). y.0 == x) (hs ++ js) ≡ count_by (λ (y : ℕ × ℕ). y.0 == x) hs + count_by (λ (y : ℕ × ℕ). y.0 == x) js
firsts_append x hs js = sum_by-append (λ (y : ℕ × ℕ). if y.0 == x then 1 else 0) hs js

pub is_one : (n x : ℕ) → n ≡ x → ◌≡◌ {A = ℕ} (if n == x then 1 else 0) 1
is_one n x e = grind (arith, nat_tests)

pub is_none : (n x : ℕ) → n ≢ x → ◌≡◌ {A = ℕ} (if n == x then 1 else 0) 0
is_none n x e = grind (arith, nat_tests)

-- an element that the test is true of is counted
pub counts_one : {X : Type 0} (p : X → ℕ) (xs : List X) (x : X) → Contains xs x → p x ≤ sum_by p xs
counts_one p xs x at = subst (λ y. p y ≤ sum_by p xs) at.2 (get_or-le-sum_by p xs at.0 x at.1)

pub contains_number : (n : ℕ) (ns : List ℕ) → 0 < count_by (λ y. y == n) ns → Contains ns n
contains_number n ns counted =
    let one = one_counts (λ (y : ℕ). if y == n then 1 else 0) ns counted in
    let here = at_get ns one.0 one.1 one.2 in
    dite (ℕ_discrete one.1 n)
    (λ e. subst (Contains ns) e (one.0, here.0, here.1))
    (λ ne. absurd (omega (arith, one.3, is_none one.1 n ne)))

pub contains_first : (k : ℕ) (hs : List (ℕ × ℕ)) → 0 < count_by (λ (h : ℕ × ℕ). h.0 == k) hs → (turn : ℕ) × Contains hs (k, turn)
contains_first k hs counted =
    let one = one_counts (λ (h : ℕ × ℕ). if h.0 == k then 1 else 0) hs counted in
    let here = at_get hs one.0 one.1 one.2 in
    dite (ℕ_discrete one.1.0 k)
    (λ e. (one.1.1, subst (λ j. Contains hs (j, one.1.1)) e (one.0, here.0, here.1)))
    (λ ne. absurd (omega (arith, one.3, is_none one.1.0 k ne)))
