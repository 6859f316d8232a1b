-- Which part of a concatenation consumes last, or first, and whether it separates.
use Rattle.std.specs.Prelude.{◌≡◌, ℕ, ◌+◌, ◌<◌, ◌&&◌, Bool, true, false, List, length, get_or, take, drop, Option, Some, None}
use Rattle.rx_model.specs.Expression.{Expression, empty}
use Rattle.rx_hir.specs.Length.{maximum_len, sum_of_maximum_len}
use Rattle.rx_hir.specs.Normal.{is_zero, expressions}
use Rattle.rx_order.specs.Tests.{all_apart, separator_class, passes, literals_are_apart}

-- the part at this place
abbrev pub part_at : ℕ → List Expression → Expression
part_at n parts = get_or parts n empty

-- none of the parts is consuming
abbrev pub AreStill : List Expression → Type 0
AreStill parts = is_zero (sum_of_maximum_len (expressions parts)) ≡ true

-- the part at this place is consuming
abbrev pub IsConsuming : ℕ → List Expression → Type 0
IsConsuming n parts = (n < length parts) × (is_zero (maximum_len (part_at n parts)) ≡ false)

-- the place of the last consuming part, if there is one
abbrev pub IsLastConsuming : List Expression → Option ℕ → Type 0
IsLastConsuming parts None = AreStill parts
IsLastConsuming parts (Some n) = IsConsuming n parts × AreStill (drop (n + 1) parts)

-- the place of the first
abbrev pub IsFirstConsuming : List Expression → Option ℕ → Type 0
IsFirstConsuming parts None = AreStill parts
IsFirstConsuming parts (Some n) = IsConsuming n parts × AreStill (take n parts)

-- the part is a class, or copies of one, that shares no member with the other parts or a literal
abbrev pub separates_at : ℕ → List Expression → List (List ℕ) → Bool
separates_at n parts ls =
    passes (separator_class (part_at n parts))
    (λ k. (all_apart k (expressions (take n parts)) && all_apart k (expressions (drop (n + 1) parts))) && literals_are_apart k ls)
