-- The literal at an index.
use Rattle.std.proofs.Common.{◌≡◌, ℕ, zero, suc, ◌<◌, Bool, List, [], ◌∷◌, length, take, drop, get_or, sym, ap, ◌∙◌, arith}
use Rattle.std.specs.List.{list_any}
use Rattle.rx_literal.specs.Literals.{Literal}
use Rattle.std.proofs.Math.Bool.{or-false}

one-at : (ls : List Literal) (i : ℕ) (l : Literal) → i < length ls → l ≡ get_or ls i l → take 1 (drop i ls) ≡ l ∷ []
one-at [] i l lt at = absurd (omega arith)
one-at (x ∷ ls) zero l lt at = ap (λ y. y ∷ []) (sym at)
one-at (x ∷ ls) (suc i) l lt at = one-at ls i l (omega arith) at

-- a test of the one at i
pub any-at : (p : Literal → Bool) (ls : List Literal) (i : ℕ) (l : Literal) → i < length ls → l ≡ get_or ls i l → p l ≡ list_any p (take 1 (drop i ls))
any-at p ls i l lt at = sym (ap (list_any p) (one-at ls i l lt at) ∙ or-false (p l))
