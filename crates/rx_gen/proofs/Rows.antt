-- Rows of the definitions.
use Rattle.std.proofs.Common.{◌≡◌, [], ◌∷◌, codes, refl}
use Rattle.rx_gen.specs.Generated.{state_at, numbers, draws_before, generated}
use Rattle.rx_gen.specs.Totals.{totals_of}

haystack_rows :
    (generated 1 2 ≡ codes "gbdddc" ∷ codes "egfheebhbhb" ∷ []) ×
    (generated 0 1 ≡ [] ∷ []) ×
    (generated 4294967295 1 ≡ codes "bggbcahag" ∷ []) ×
    (generated 1 0 ≡ [])
unfolding state_at numbers draws_before
haystack_rows = (refl, refl, refl, refl)

totals_rows :
    (totals_of (codes "gbdddc" ∷ codes "egfheebhbhb" ∷ []) (record { matches = 1; covered = 2 } ∷ record { matches = 2; covered = 6 } ∷ [])
    ≡ record { haystacks = 2; bytes = 17; matches = 3; covered = 8 }) ×
    (totals_of [] [] ≡ record { haystacks = 0; bytes = 0; matches = 0; covered = 0 })
totals_rows = (refl, refl)
