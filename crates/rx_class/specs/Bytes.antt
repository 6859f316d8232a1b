-- Complements of ranges of bytes, and the other case of ASCII letters.
use Rattle.std.specs.Prelude.{ℕ, ◌+◌, ◌-◌, Bool, ◌&&◌, nat_le, min, max, List, [], ◌∷◌, ◌++◌, Option, Some, None, if◌then◌else◌}
use Rattle.std.specs.List.{flat_map}
use Rattle.rx_class.specs.Ranges.{next_byte, fewest}
use Rattle.rx_class.specs.Outside.{outside}

-- the byte before this one
abbrev pub previous_byte : ℕ → ℕ
previous_byte b = b - 1

-- the bytes that fewest ranges don't hold
abbrev pub byte_complement : List (ℕ × ℕ) → List (ℕ × ℕ)
byte_complement ranges = outside next_byte previous_byte 0xFF 0 ranges

-- the byte, or the number after the last
abbrev pub or_past_byte : Option ℕ → ℕ
or_past_byte None = 0x100
or_past_byte (Some b) = b

abbrev pub is_upper : ℕ → Bool
is_upper b = nat_le 0x41 b && nat_le b 0x5A

abbrev pub is_lower : ℕ → Bool
is_lower b = nat_le 0x61 b && nat_le b 0x7A

-- the other case of an ASCII letter, and any other byte itself
abbrev pub other_case : ℕ → ℕ
other_case b = if is_upper b then b + 32 else if is_lower b then b - 32 else b

-- the numbers of a range from `first` to `last`, moved
abbrev pub moved : (first last : ℕ) → (move : ℕ → ℕ) → ℕ × ℕ → List (ℕ × ℕ)
moved first last move r =
    let low = max r.0 first in
    let high = min r.1 last in
    if nat_le low high then (move low, move high) ∷ [] else []

-- the ASCII letters of a range, in the other case
abbrev pub other_cases : ℕ × ℕ → List (ℕ × ℕ)
other_cases r = moved 0x41 0x5A (λ b. b + 32) r ++ moved 0x61 0x7A (λ b. b - 32) r

-- the bytes of the ranges, and their ASCII letters in the other case
unfoldable pub byte_folded : List (ℕ × ℕ) → List (ℕ × ℕ)
byte_folded ranges = fewest next_byte (ranges ++ flat_map other_cases ranges)
