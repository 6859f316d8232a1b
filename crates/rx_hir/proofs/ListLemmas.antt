-- What a loop over a list has gathered.
use Rattle.std.proofs.Common.{◌≡◌, ℕ, ◌+◌, ◌<◌, List, [], ◌∷◌, ◌++◌, ◌∙◌, sym, ap, length, take, get_or}
use Rattle.std.proofs.lemmas.List.{take_more}

-- a copy of the next one was added
pub copied-more : {X : Type 0} (xs : List X) (k : ℕ) (all new : List X) (x y : X) → k < length xs → y ≡ get_or xs k y → all ≡ take k xs → x ≡ y
    → new ≡ all ++ x ∷ [] → new ≡ take (k + 1) xs
copied-more xs k all new x y lt is so_far same pushed =
    pushed ∙ ap (λ ys. ys ++ x ∷ []) so_far ∙ ap (λ z. take k xs ++ z ∷ []) (same ∙ is) ∙ sym (take_more xs k y lt)
