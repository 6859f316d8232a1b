-- Tests of a list that a loop goes over: what the element at a place adds to those after it.
use Rattle.std.specs.List.{list_any, list_all}
use Rattle.std.proofs.Common.{◌≡◌, ℕ, ◌+◌, ◌<◌, ◌≤◌, Bool, true, false, ◌||◌, ◌&&◌, not, List, length, drop, get_or, refl, sym, ap, ◌∙◌}
use Rattle.std.proofs.lemmas.List.{at_drop_more, drop_all}

module _ {X : Type 0} (p : X → Bool) (xs : List X) (i : ℕ) where
  pub any-at : (x : X) → i < length xs → x ≡ get_or xs i x → list_any p (drop i xs) ≡ (p x || list_any p (drop (i + 1) xs))
  any-at x lt is = at_drop_more (list_any p) xs i x lt ∙ ap (λ y. p y || list_any p (drop (i + 1) xs)) (sym is)

  pub any-yes : (x : X) → i < length xs → x ≡ get_or xs i x → p x ≡ true → list_any p (drop i xs) ≡ true
  any-yes x lt is e = any-at x lt is ∙ ap (λ b. b || list_any p (drop (i + 1) xs)) e

  pub any-no : (x : X) → i < length xs → x ≡ get_or xs i x → p x ≡ false → list_any p (drop i xs) ≡ list_any p (drop (i + 1) xs)
  any-no x lt is e = any-at x lt is ∙ ap (λ b. b || list_any p (drop (i + 1) xs)) e

  pub any-past : length xs ≤ i → list_any p (drop i xs) ≡ false
  any-past le = ap (list_any p) (drop_all i xs le)

  pub all-at : (x : X) → i < length xs → x ≡ get_or xs i x → list_all p (drop i xs) ≡ (p x && list_all p (drop (i + 1) xs))
  all-at x lt is = at_drop_more (list_all p) xs i x lt ∙ ap (λ y. p y && list_all p (drop (i + 1) xs)) (sym is)

  pub all-no : (x : X) → i < length xs → x ≡ get_or xs i x → p x ≡ false → list_all p (drop i xs) ≡ false
  all-no x lt is e = all-at x lt is ∙ ap (λ b. b && list_all p (drop (i + 1) xs)) e

  pub all-yes : (x : X) → i < length xs → x ≡ get_or xs i x → p x ≡ true → list_all p (drop i xs) ≡ list_all p (drop (i + 1) xs)
  all-yes x lt is e = all-at x lt is ∙ ap (λ b. b && list_all p (drop (i + 1) xs)) e

  pub all-past : length xs ≤ i → list_all p (drop i xs) ≡ true
  all-past le = ap (list_all p) (drop_all i xs le)

-- The same where what is left has told so far what the whole list tells, and the element is read with a default.
module _ {X : Type 0} (p : X → Bool) (xs : List X) (i : ℕ) where
  pub any-found : (d : X) → i < length xs → p (get_or xs i d) ≡ true → list_any p (drop i xs) ≡ list_any p xs → true ≡ list_any p xs
  any-found d lt e so_far = sym (at_drop_more (list_any p) xs i d lt ∙ ap (λ b. b || list_any p (drop (i + 1) xs)) e) ∙ so_far

  pub any-next : (d : X) → i < length xs → p (get_or xs i d) ≡ false → list_any p (drop i xs) ≡ list_any p xs
      → list_any p (drop (i + 1) xs) ≡ list_any p xs
  any-next d lt e so_far = sym (at_drop_more (list_any p) xs i d lt ∙ ap (λ b. b || list_any p (drop (i + 1) xs)) e) ∙ so_far

  pub any-end : length xs ≤ i → list_any p (drop i xs) ≡ list_any p xs → false ≡ list_any p xs
  any-end le so_far = sym (any-past p xs i le) ∙ so_far

  pub all-failed : (d : X) → i < length xs → p (get_or xs i d) ≡ false → list_all p (drop i xs) ≡ list_all p xs → false ≡ list_all p xs
  all-failed d lt e so_far = sym (at_drop_more (list_all p) xs i d lt ∙ ap (λ b. b && list_all p (drop (i + 1) xs)) e) ∙ so_far

  pub all-next : (d : X) → i < length xs → p (get_or xs i d) ≡ true → list_all p (drop i xs) ≡ list_all p xs
      → list_all p (drop (i + 1) xs) ≡ list_all p xs
  all-next d lt e so_far = sym (at_drop_more (list_all p) xs i d lt ∙ ap (λ b. b && list_all p (drop (i + 1) xs)) e) ∙ so_far

  pub all-end : length xs ≤ i → list_all p (drop i xs) ≡ list_all p xs → true ≡ list_all p xs
  all-end le so_far = sym (all-past p xs i le) ∙ so_far

-- the counterpart of `zero-from`
pub some-from : (b : Bool) → not b ≡ true → b ≡ false
some-from true e = sym e
some-from false e = refl
