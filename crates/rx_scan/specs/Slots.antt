-- The slots of a row, whichever way they are kept.
use Rattle.std.specs.Prelude.{◌≢◌, ℕ, List, length, Option}
use Rattle.rx_scan.specs.declared.row.Places.{Places}
use Rattle.rx_scan.specs.declared.row.Places.TheVariants.{Whole, Groups}

-- the slots, in order
abbrev pub slots_of : Places → List (Option ℕ)
slots_of (Whole two) = two
slots_of (Groups slots) = slots.items

-- two are kept without an allocation
abbrev pub IsSmall : Places → Type 0
IsSmall (Whole two) = Unit {0}
IsSmall (Groups slots) = length slots.items ≢ 2
