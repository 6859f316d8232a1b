-- The fewest ranges of one number.
use Rattle.std.proofs.Common.{◌≡◌, ℕ, true, [], ◌∷◌, ap, arith}
use Rattle.std.specs.Prelude.{nat_le, if◌then◌else◌}
use Rattle.std.proofs.lemmas.Bool.Decides.{nat_tests}
use Rattle.rx_class.specs.Ranges.{insert, fewest}

pub fewest-one : (next : ℕ → ℕ) (c : ℕ) → fewest next ((c, c) ∷ []) ≡ (c, c) ∷ []
unfolding fewest insert
fewest-one next c =
    let own : nat_le c c ≡ true = grind (arith, nat_tests) in
    ap (λ b. if b then (c, c) ∷ [] else []) own
