-- The members of a list, and those of a choice.
use Rattle.std.proofs.Common.{◌≡◌, ℕ, zero, suc, ◌<◌, ◌⊎◌, List, [], ◌∷◌, ◌++◌, refl, subst, inl, inr, ⊎_elim, arith, length, get_or}
use Rattle.std.specs.Prelude.{Contains, map}
use Rattle.rx_model.specs.Runs.{Configuration}
use Rattle.rx_model.specs.Graph.{at}

module _ {A : Type 0} where
  pub first-among : (x : A) (xs : List A) → Contains (x ∷ xs) x
  first-among x xs = (0, omega arith, refl)

  pub later-among : (x y : A) (xs : List A) → Contains xs y → Contains (x ∷ xs) y
  later-among x y xs m = (suc m.0, (let lt = m.1 in omega arith), m.2)

  pub none-among : (y : A) → Contains [] y → ⊥
  none-among y m = let lt = m.1 in omega arith

  pub split-among : (x y : A) (xs : List A) → Contains (x ∷ xs) y → (x ≡ y) ⊎ Contains xs y
  split-among x y xs m = at m.0 m.1 m.2
    where
      at : (k : ℕ) → k < suc (length xs) → get_or (x ∷ xs) k y ≡ y → (x ≡ y) ⊎ Contains xs y
      at zero lt e = inl e
      at (suc k) lt e = inr (k, omega arith, e)

  pub only-among : (x y : A) → Contains (x ∷ []) y → x ≡ y
  only-among x y m = ⊎_elim (λ e. e) (λ more. absurd (none-among y more)) (split-among x y [] m)

  pub either-among : (xs ys : List A) (y : A) → Contains (xs ++ ys) y → Contains xs y ⊎ Contains ys y
  either-among [] ys y m = inr m
  either-among (x ∷ xs) ys y m =
      ⊎_elim
      (λ e. inl (subst (λ z. Contains (x ∷ xs) z) e (first-among x xs)))
      (λ more. ⊎_elim (λ h. inl (later-among x y xs h)) (λ h. inr h) (either-among xs ys y more))
      (split-among x y (xs ++ ys) m)

  pub front-among : (xs ys : List A) (y : A) → Contains xs y → Contains (xs ++ ys) y
  front-among [] ys y m = absurd (none-among y m)
  front-among (x ∷ xs) ys y m =
      ⊎_elim (λ e. subst (λ z. Contains (x ∷ (xs ++ ys)) z) e (first-among x (xs ++ ys))) (λ more. later-among x y (xs ++ ys) (front-among xs ys y more))
      (split-among x y xs m)

  pub back-among : (xs ys : List A) (y : A) → Contains ys y → Contains (xs ++ ys) y
  back-among [] ys y m = m
  back-among (x ∷ xs) ys y m = later-among x y (xs ++ ys) (back-among xs ys y m)

module _ {A B : Type 0} (f : A → B) where
  pub map-among : (xs : List A) (y : B) → Contains (map f xs) y → (x : A) × Contains xs x × (f x ≡ y)
  map-among [] y m = absurd (none-among y m)
  map-among (x ∷ xs) y m =
      ⊎_elim
      (λ e. (x, first-among x xs, e))
      (λ more. let z = map-among xs y more in (z.0, later-among x z.0 xs z.1, z.2))
      (split-among (f x) y (map f xs) m)

  pub among-map : (xs : List A) (x : A) → Contains xs x → Contains (map f xs) (f x)
  among-map [] x m = absurd (none-among x m)
  among-map (y ∷ xs) x m =
      ⊎_elim
      (λ e. subst (λ z. Contains (f y ∷ map f xs) (f z)) e (first-among (f y) (map f xs)))
      (λ more. later-among (f y) (f x) (map f xs) (among-map xs x more))
      (split-among y x xs m)

pub choice-member : (qs : List ℕ) (i : ℕ) (d : Configuration) → Contains (map (λ q. at q i) qs) d → (q : ℕ) × Contains qs q × (at q i ≡ d)
choice-member qs i d m = map-among (λ q. at q i) qs d m

pub member-choice : (qs : List ℕ) (i q : ℕ) → Contains qs q → Contains (map (λ x. at x i) qs) (at q i)
member-choice qs i q m = among-map (λ x. at x i) qs q m
