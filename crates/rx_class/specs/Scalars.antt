-- Complements of ranges of scalars.
use Rattle.std.specs.Prelude.{ℕ, ◌-◌, ◌==◌, List, Option, Some, None, if◌then◌else◌}
use Rattle.rx_class.specs.Ranges.{next_scalar}
unfoldable pub use Rattle.rx_class.specs.Outside.{outside}

-- the scalar before this one
abbrev pub previous_scalar : ℕ → ℕ
previous_scalar c = if c == 0xE000 then 0xD7FF else c - 1

-- the scalars that fewest ranges don't hold
abbrev pub complement : List (ℕ × ℕ) → List (ℕ × ℕ)
complement ranges = outside next_scalar previous_scalar 0x10FFFF 0 ranges

-- the scalar, or the number after the last
abbrev pub or_past : Option ℕ → ℕ
or_past None = 0x110000
or_past (Some c) = c
