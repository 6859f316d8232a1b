-- Loops over a list, step by step: lists that they make, tests that they take, and lengths that they add up.
use Rattle.std.proofs.Common.{◌≡◌, ℕ, zero, suc, ◌+◌, ◌<◌, ◌≤◌, Bool, true, false, ◌&&◌, List, [], ◌∷◌, ◌++◌, length, map, take, drop, get_or}
use Rattle.std.proofs.Common.{sym, ap, ◌∙◌, arith, append_assoc, append-nil, length-append}
use Rattle.std.specs.Prelude.{nat_lt, min, ◌||◌}
use Rattle.std.specs.List.{list_all, list_any, flat_map}
use Rattle.std.proofs.lemmas.Bool.Decides.{nat_tests}
use Rattle.std.proofs.lemmas.List.{take_all, take_more, drop_more, map_more, map-append, flat_map_more}
use Rattle.std.proofs.lemmas.List.Folds.{list_any_more, list_all_more}
use Rattle.std.proofs.Math.Bool.{or-true, and-false}
use Rattle.rx_hir.proofs.JoinedLemmas.{drop-past}

-- a list that is made of the elements so far: one more
pub map-one : {A B : Type 0} (f : A → B) (xs : List A) (i : ℕ) (d : A) (ys zs : List B) (y : B) → i < length xs → y ≡ f (get_or xs i d)
    → zs ≡ ys ++ y ∷ [] → ys ≡ map f (take i xs) → zs ≡ map f (take (i + 1) xs)
map-one f xs i d ys zs y lt is added so_far = added ∙ (λ k. so_far k ++ is k ∷ []) ∙ sym (map_more f xs i d lt)

-- and of all
pub map-end : {A B : Type 0} (f : A → B) (xs : List A) (i : ℕ) (ys : List B) → length xs ≤ i → ys ≡ map f (take i xs) → ys ≡ map f xs
map-end f xs i ys le so_far = so_far ∙ ap (map f) (take_all i xs le)

-- a list that is made, before what is still to come: one more
pub map-step : {A B : Type 0} (f : A → B) (xs : List A) (i : ℕ) (x : A) (ys zs all : List B) (y : B) → i < length xs → x ≡ get_or xs i x → y ≡ f x
    → zs ≡ ys ++ y ∷ [] → ys ++ map f (drop i xs) ≡ all → zs ++ map f (drop (i + 1) xs) ≡ all
map-step f xs i x ys zs all y lt at is added so_far =
    let rest = map f (drop (i + 1) xs) in
    let next : y ∷ rest ≡ map f (drop i xs) = (λ k. (is ∙ ap f at) k ∷ rest) ∙ sym (ap (map f) (drop_more xs i x lt)) in
    ap (λ ws. ws ++ rest) added ∙ append_assoc ys (y ∷ []) rest ∙ ap (λ ws. ys ++ ws) next ∙ so_far

-- where nothing is to come
pub map-over : {A B : Type 0} (f : A → B) (xs : List A) (i : ℕ) (ys all : List B) → length xs ≤ i → ys ++ map f (drop i xs) ≡ all → ys ≡ all
map-over f xs i ys all le so_far = sym (append-nil ys) ∙ sym (ap (λ zs. ys ++ map f zs) (drop-past xs i le)) ∙ so_far

-- a copy that is made, before what is still to come: one more
pub copy-one : {A : Type 0} (xs : List A) (i : ℕ) (x : A) (ys zs all : List A) (y : A) → i < length xs → x ≡ get_or xs i x → y ≡ x
    → zs ≡ ys ++ y ∷ [] → ys ++ drop i xs ≡ all → zs ++ drop (i + 1) xs ≡ all
copy-one xs i x ys zs all y lt at is added so_far =
    let rest = drop (i + 1) xs in
    let next : y ∷ rest ≡ drop i xs = (λ k. (is ∙ at) k ∷ rest) ∙ sym (drop_more xs i x lt) in
    ap (λ ws. ws ++ rest) added ∙ append_assoc ys (y ∷ []) rest ∙ ap (λ ws. ys ++ ws) next ∙ so_far

pub copy-end : {A : Type 0} (xs : List A) (i : ℕ) (ys all : List A) → length xs ≤ i → ys ++ drop i xs ≡ all → ys ≡ all
copy-end xs i ys all le so_far = sym (append-nil ys) ∙ sym (ap (λ zs. ys ++ zs) (drop-past xs i le)) ∙ so_far

-- elements that show those so far: one more
pub shown-more : {A B : Type 0} (f : A → B) (ps qs : List A) (xs : List B) (i : ℕ) (p : A) (x : B) → i < length xs → x ≡ get_or xs i x → f p ≡ x
    → qs ≡ ps ++ p ∷ [] → map f ps ≡ take i xs → map f qs ≡ take (i + 1) xs
shown-more f ps qs xs i p x lt at is added so_far =
    ap (map f) added ∙ map-append f ps (p ∷ []) ∙ (λ k. so_far k ++ (is ∙ at) k ∷ []) ∙ sym (take_more xs i x lt)

-- one more is pushed, of those that an iterator yielded
pub map-pushed : {A B : Type 0} (f : A → B) (xs : List A) (x : A) (ys zs : List B) (y : B) → zs ≡ ys ++ y ∷ [] → y ≡ f x → ys ≡ map f xs
    → zs ≡ map f (xs ++ x ∷ [])
map-pushed f xs x ys zs y added is so_far = added ∙ (λ k. so_far k ++ is k ∷ []) ∙ sym (map-append f xs (x ∷ []))

pub append-pushed : {A : Type 0} (front xs : List A) (x : A) (ys zs : List A) → zs ≡ ys ++ x ∷ [] → ys ≡ front ++ xs → zs ≡ front ++ (xs ++ x ∷ [])
append-pushed front xs x ys zs added so_far = added ∙ ap (λ ws. ws ++ x ∷ []) so_far ∙ append_assoc front xs (x ∷ [])

pub flat-pushed : {A B : Type 0} (f : A → List B) (xs : List A) (x : A) (ys zs : List B) → zs ≡ ys ++ f x → ys ≡ flat_map f xs
    → zs ≡ flat_map f (xs ++ x ∷ [])
flat-pushed f xs x ys zs added so_far = added ∙ ap (λ ws. ws ++ f x) so_far ∙ flat_map_more f [] xs x

any-there : {A : Type 0} (p : A → Bool) (xs : List A) (i : ℕ) (d : A) → i < length xs → p (get_or xs i d) ≡ true → list_any p xs ≡ true
any-there p [] i d lt h = absurd (omega arith)
any-there p (x ∷ xs) zero d lt h = ap (λ b. b || list_any p xs) h
any-there p (x ∷ xs) (suc i) d lt h = ap (λ b. p x || b) (any-there p xs i d (omega arith) h) ∙ or-true (p x)

all-there : {A : Type 0} (p : A → Bool) (xs : List A) (i : ℕ) (d : A) → i < length xs → p (get_or xs i d) ≡ false → list_all p xs ≡ false
all-there p [] i d lt h = absurd (omega arith)
all-there p (x ∷ xs) zero d lt h = ap (λ b. b && list_all p xs) h
all-there p (x ∷ xs) (suc i) d lt h = ap (λ b. p x && b) (all-there p xs i d (omega arith) h) ∙ and-false (p x)

-- a test that one passes
pub some-here : {A : Type 0} (p : A → Bool) (xs : List A) (i : ℕ) (x : A) (b : Bool) → i < length xs → x ≡ get_or xs i x → b ≡ p x → b ≡ true
    → true ≡ list_any p xs
some-here p xs i x b lt at is passes = sym (any-there p xs i x lt (ap p (sym at) ∙ sym is ∙ passes))

-- that none passes so far
pub none-more : {A : Type 0} (p : A → Bool) (xs : List A) (i : ℕ) (x : A) (b : Bool) → i < length xs → x ≡ get_or xs i x → b ≡ p x → b ≡ false
    → list_any p (take i xs) ≡ false → list_any p (take (i + 1) xs) ≡ false
none-more p xs i x b lt at is fails so_far = list_any_more p xs i x lt ∙ (λ k. so_far k || (ap p (sym at) ∙ sym is ∙ fails) k)

pub none-end : {A : Type 0} (p : A → Bool) (xs : List A) (i : ℕ) → length xs ≤ i → list_any p (take i xs) ≡ false → false ≡ list_any p xs
none-end p xs i le so_far = sym so_far ∙ ap (list_any p) (take_all i xs le)

-- a test that one fails
pub one-fails : {A : Type 0} (p : A → Bool) (xs : List A) (i : ℕ) (d : A) → i < length xs → p (get_or xs i d) ≡ false → false ≡ list_all p xs
one-fails p xs i d lt fails = sym (all-there p xs i d lt fails)

-- that all pass so far
pub all-more : {A : Type 0} (p : A → Bool) (xs : List A) (i : ℕ) (d : A) → i < length xs → p (get_or xs i d) ≡ true
    → list_all p (take i xs) ≡ true → list_all p (take (i + 1) xs) ≡ true
all-more p xs i d lt passes so_far = list_all_more p xs i d lt ∙ (λ k. so_far k && passes k)

pub all-end : {A : Type 0} (p : A → Bool) (xs : List A) (i : ℕ) → length xs ≤ i → list_all p (take i xs) ≡ true → true ≡ list_all p xs
all-end p xs i le so_far = sym so_far ∙ ap (list_all p) (take_all i xs le)

module _ {A B : Type 0} (f : A → List B) (xs : List A) (i : ℕ) where
  count-drop : (x : A) → i < length xs → x ≡ get_or xs i x → length (flat_map f (drop i xs)) ≡ length (f x) + length (flat_map f (drop (i + 1) xs))
  count-drop x lt at =
      let rest = flat_map f (drop (i + 1) xs) in
      ap (λ ys. length (flat_map f ys)) (drop_more xs i x lt) ∙ ap (λ y. length (f y ++ rest)) (sym at) ∙ length-append (f x) rest

  -- the length of all that the elements give: of one more, where the sum does not come to its end
  pub length-more : (x : A) (n e m all : ℕ) → i < length xs → x ≡ get_or xs i x → e ≡ length (f x) → m ≡ min (n + e) 18446744073709551615 → m ≤ 250
      → n + length (flat_map f (drop i xs)) ≡ all → m + length (flat_map f (drop (i + 1) xs)) ≡ all
  length-more x n e m all lt at each sum few so_far = let parts = count-drop x lt at in omega (arith, parts, each, sum, few, so_far)

  -- too many already
  pub length-past : (x : A) (n e m all : ℕ) → i < length xs → x ≡ get_or xs i x → e ≡ length (f x) → m ≡ min (n + e) 18446744073709551615 → 250 < m
      → n + length (flat_map f (drop i xs)) ≡ all → true ≡ nat_lt 250 all
  length-past x n e m all lt at each sum many so_far =
      let parts = count-drop x lt at in
      let past : 250 < all = omega (arith, parts, each, sum, many, so_far) in
      let test : nat_lt 250 all ≡ true = grind (arith, nat_tests) in
      sym test

  -- not too many at the end
  pub length-end : (n all : ℕ) → length xs ≤ i → n ≤ 250 → n + length (flat_map f (drop i xs)) ≡ all → false ≡ nat_lt 250 all
  length-end n all le few so_far =
      let none : length (flat_map f (drop i xs)) ≡ 0 = ap (λ ys. length (flat_map f ys)) (drop-past xs i le) in
      let most : all ≤ 250 = omega (arith, none, few, so_far) in
      let test : nat_lt 250 all ≡ false = grind (arith, nat_tests) in
      sym test
