-- Lists of numbers, one of which is set or appended.
use Rattle.std.proofs.Common.{◌≡◌, ◌≢◌, ◌⊎◌, ℕ, zero, suc, ◌<◌, ◌==◌, List, [], ◌∷◌, ◌++◌, length, get_or, refl, sym, ◌∙◌, ap, inl, inr, arith, slice_index}
use Rattle.std.specs.Prelude.{Some, true, false, slice_get, slice_set}
use Rattle.std.proofs.lemmas.Bool.Decides.{nat_tests}
use Rattle.std.proofs.lemmas.Option.{slice_get-get_or, get_or_from_slice_get}
use Rattle.rx_model.proofs.lemmas.runs.RunLemmas.{by_test}
use Rattle.rx_model.proofs.lemmas.runs.FirstLemmas.{none-is-some, some-is}
use Rattle.rx_onepass_build.specs.Rows.{unmarked}

pub set-same : {A : Type 0} (xs : List A) (i : ℕ) (y : A) → i < length xs → slice_get (slice_set xs i y) i ≡ Some y
set-same [] i y lt = absurd (omega arith)
set-same (x ∷ xs) zero y lt = refl
set-same (x ∷ xs) (suc i) y lt = set-same xs i y (omega arith)

pub set-other : {A : Type 0} (xs : List A) (i j : ℕ) (y : A) → j ≢ i → slice_get (slice_set xs i y) j ≡ slice_get xs j
set-other [] i j y apart = refl
set-other (x ∷ xs) zero zero y apart = absurd (apart refl)
set-other (x ∷ xs) zero (suc j) y apart = refl
set-other (x ∷ xs) (suc i) zero y apart = refl
set-other (x ∷ xs) (suc i) (suc j) y apart = set-other xs i j y (λ e. apart (ap suc e))

pub get-front : {A : Type 0} (xs ys : List A) (i : ℕ) (x : A) → slice_get xs i ≡ Some x → slice_get (xs ++ ys) i ≡ Some x
get-front [] ys i x e = none-is-some e
get-front (z ∷ xs) ys zero x e = e
get-front (z ∷ xs) ys (suc i) x e = get-front xs ys i x e

pub get-last : {A : Type 0} (xs : List A) (y : A) → slice_get (xs ++ y ∷ []) (length xs) ≡ Some y
get-last [] y = refl
get-last (x ∷ xs) y = get-last xs y

-- what stands in a list that was appended to
pub get-appended : {A : Type 0} (xs : List A) (y : A) (i : ℕ) (z : A) → slice_get (xs ++ y ∷ []) i ≡ Some z
    → (slice_get xs i ≡ Some z) ⊎ ((i ≡ length xs) × (z ≡ y))
get-appended [] y zero z e = inr (refl, sym (some-is e))
get-appended [] y (suc i) z e = none-is-some e
get-appended (x ∷ xs) y zero z e = inl e
get-appended (x ∷ xs) y (suc i) z e = by (get-appended xs y i z e)
  where
    by : (slice_get xs i ≡ Some z) ⊎ ((i ≡ length xs) × (z ≡ y)) → (slice_get xs i ≡ Some z) ⊎ ((suc i ≡ suc (length xs)) × (z ≡ y))
    by (inl h) = inl h
    by (inr h) = inr (ap suc h.0, h.1)

-- what stands in a list lies within it
pub get-within : {A : Type 0} (xs : List A) (i : ℕ) (x : A) → slice_get xs i ≡ Some x → i < length xs
get-within [] i x e = none-is-some e
get-within (y ∷ xs) zero x e = omega arith
get-within (y ∷ xs) (suc i) x e = let lt = get-within xs i x e in omega arith

-- one state more is marked
pub unmarked-less : (row : ℕ) (marks : List ℕ) (q : ℕ) → q < length marks → (slice_get marks q ≡ Some row → ⊥)
    → unmarked row (slice_set marks q row) < unmarked row marks
unfolding unmarked
unmarked-less row [] q lt new = absurd (omega arith)
unmarked-less row (mark ∷ marks) zero lt new =
    let here : (row == row) ≡ true = grind (arith, nat_tests) in
    by_test (mark == row)
    (λ e. let same : mark ≡ row = grind (arith, nat_tests) in absurd (new (ap Some same)))
    (λ e. rw (here, e) (omega arith))
unmarked-less row (mark ∷ marks) (suc q) lt new =
    let less = unmarked-less row marks q (omega arith) new in
    by_test (mark == row) (λ e. rw e (omega arith)) (λ e. rw e (omega arith))

-- What was read of a list.

pub read-there : (xs : List ℕ) (i x : ℕ) → i < length xs → x ≡ get_or xs i x → slice_get xs i ≡ Some x
read-there xs i x lt read = slice_get-get_or xs i x lt ∙ ap Some (sym read)

pub read-index : (xs : List ℕ) (i x : ℕ) → i < length xs → x ≡ get_or xs i x → x ≡ slice_index xs i
read-index xs i x lt read = sym (get_or_from_slice_get xs i x 0 (read-there xs i x lt read))

-- where the list is known by another name
pub read-as : (xs ys : List ℕ) (i x : ℕ) → ys ≡ xs → i < length xs → x ≡ get_or ys i x → slice_get xs i ≡ Some x
read-as xs ys i x same lt read = read-there xs i x lt (read ∙ ap (λ zs. get_or zs i x) same)

-- What a test of two numbers says.

pub test-same : (a b : ℕ) → (a == b) ≡ true → a ≡ b
test-same a b e = grind (arith, nat_tests)

pub test-apart : (a b : ℕ) → (a == b) ≡ false → a ≢ b
test-apart a b e = grind (arith, nat_tests)

pub apart-test : (a b : ℕ) → a ≢ b → (a == b) ≡ false
apart-test a b e = grind (arith, nat_tests)

pub same-test : (a b : ℕ) → a ≡ b → (a == b) ≡ true
same-test a b e = grind (arith, nat_tests)
