-- Ranges that hold what was added to them.
use Rattle.std.proofs.Common.{◌≡◌, ℕ, List, [], ◌∷◌, ◌++◌, ap, sym, ◌∙◌}
use Rattle.std.specs.Prelude.{All}
use Rattle.std.proofs.lemmas.List.Elements.{All-weaker, All-push}
use Rattle.rx_class.specs.Ranges.{next_scalar, fewest, HaveScalarEnds}
use Rattle.rx_class.proofs.EarlyLemmas.{both-ends, fewest-has-ends, fewest-front, union-held, union-twice}
use Rattle.rx_syntax.specs.declared.named.SetKey.{SetKey}
use Rattle.rx_syntax.specs.Named.{scalars_of}
use Rattle.rx_syntax.specs.Partial.{IsHeld}

-- what the ranges hold they hold with more
held-more : (xs ys zs : List (ℕ × ℕ)) → HaveScalarEnds xs → HaveScalarEnds ys → HaveScalarEnds zs
    → fewest next_scalar (xs ++ ys) ≡ fewest next_scalar xs → fewest next_scalar ((xs ++ zs) ++ ys) ≡ fewest next_scalar (xs ++ zs)
held-more xs ys zs hx hy hz same =
    let front : fewest next_scalar (fewest next_scalar xs ++ zs) ≡ fewest next_scalar (xs ++ zs) = fewest-front xs zs hx hz in
    sym (fewest-front (xs ++ zs) ys (both-ends xs zs hx hz) hy) ∙ ap (λ rs. fewest next_scalar (rs ++ ys)) (sym front)
    ∙ union-held (fewest next_scalar xs) ys zs (fewest-has-ends xs hx) hy hz (fewest-front xs ys hx hy ∙ same) ∙ front

-- what was added is held
pub held-new : (xs ys : List (ℕ × ℕ)) → HaveScalarEnds xs → HaveScalarEnds ys → fewest next_scalar ((xs ++ ys) ++ ys) ≡ fewest next_scalar (xs ++ ys)
held-new xs ys hx hy =
    let front : fewest next_scalar (fewest next_scalar xs ++ ys) ≡ fewest next_scalar (xs ++ ys) = fewest-front xs ys hx hy in
    sym (fewest-front (xs ++ ys) ys (both-ends xs ys hx hy) hy) ∙ ap (λ rs. fewest next_scalar (rs ++ ys)) (sym front)
    ∙ union-twice (fewest next_scalar xs) ys (fewest-has-ends xs hx) hy ∙ front

pub sets-held : (xs zs : List (ℕ × ℕ)) → HaveScalarEnds xs → HaveScalarEnds zs → (keys : List SetKey) → All (IsHeld xs) keys → All (IsHeld (xs ++ zs)) keys
sets-held xs zs hx hz keys all = All-weaker (IsHeld xs) (IsHeld (xs ++ zs)) (λ key h. (h.0, held-more xs (scalars_of key) zs hx h.0 hz h.1)) keys all

pub set-held : (xs : List (ℕ × ℕ)) (key : SetKey) → HaveScalarEnds xs → HaveScalarEnds (scalars_of key) → (keys : List SetKey) → All (IsHeld xs) keys
    → All (IsHeld (xs ++ scalars_of key)) (keys ++ key ∷ [])
set-held xs key hx hy keys all =
    All-push (IsHeld (xs ++ scalars_of key)) keys key (sets-held xs (scalars_of key) hx hy keys all) (hy, held-new xs (scalars_of key) hx hy)
