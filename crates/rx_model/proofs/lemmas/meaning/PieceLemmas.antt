-- Pieces one after another.
use Rattle.std.proofs.Common.{ℕ, zero, suc, ◌≤◌, refl, subst, arith}
use Rattle.rx_model.specs.Meaning.{Pieces}

pub pieces-rise : (R : ℕ → ℕ → Type 0) → ((i j : ℕ) → R i j → i ≤ j) → (count i j : ℕ) → Pieces R count i j → i ≤ j
pieces-rise R each zero i j e = omega arith
pieces-rise R each (suc count) i j h =
    let now = each i h.0 h.1 in
    let later = pieces-rise R each count h.0 j h.2 in
    omega arith

-- the last one, apart
pub last-piece : (R : ℕ → ℕ → Type 0) (n i j : ℕ) → Pieces R (suc n) i j → (k : ℕ) × Pieces R n i k × R k j
last-piece R zero i j p = (i, refl, subst (λ x. R i x) p.2 p.1)
last-piece R (suc n) i j p = let x = last-piece R n p.0 j p.2 in (x.0, (p.0, p.1, x.1), x.2)
