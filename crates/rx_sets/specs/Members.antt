-- The scalars that pass a test, as a class.
use Rattle.std.specs.Prelude.{ℕ, zero, suc, Bool, ◌&&◌, List, [], ◌∷◌, if◌then◌else◌}
use lib.Utf8.{scalar}
use Rattle.rx_class.specs.Ranges.{next_scalar, fewest}

-- a range for each scalar below n that passes the test
unfoldable pub points_below : (ℕ → Bool) → (n : ℕ) → List (ℕ × ℕ)
points_below p zero = []
points_below p (suc n) = if scalar n && p n then (n, n) ∷ points_below p n else points_below p n

-- the scalars that pass the test, in fewest ranges
unfoldable pub scalars_where : (ℕ → Bool) → List (ℕ × ℕ)
scalars_where p = fewest next_scalar (points_below p 0x110000)
