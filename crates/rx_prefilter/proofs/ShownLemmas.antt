-- A list that a loop makes, and whose elements show what those of another list show.
use Rattle.std.proofs.Common.{◌≡◌, ℕ, ◌+◌, ◌<◌, ◌≤◌, List, [], ◌∷◌, ◌++◌, map, length, take, get_or, sym, ap, ◌∙◌}
use Rattle.std.proofs.lemmas.List.{map-append, map_more, take_all}

module _ {X Y Z : Type 0} (f : X → Z) (g : Y → Z) (ys : List Y) (i : ℕ) where
  -- one more
  pub shown-more : (xs more : List X) (x : X) (y : Y) → i < length ys → y ≡ get_or ys i y → f x ≡ g y → more ≡ xs ++ x ∷ []
      → map f xs ≡ map g (take i ys) → map f more ≡ map g (take (i + 1) ys)
  shown-more xs more x y lt at is added so_far =
      ap (map f) added ∙ map-append f xs (x ∷ []) ∙ (λ k. so_far k ++ (is ∙ ap g at) k ∷ []) ∙ sym (map_more g ys i y lt)

  -- all of them
  pub shown-end : (xs : List X) → length ys ≤ i → map f xs ≡ map g (take i ys) → map f xs ≡ map g ys
  shown-end xs le so_far = so_far ∙ ap (map g) (take_all i ys le)
