-- Numbers in decimal.
use Rattle.std.specs.Prelude.{ℕ, ◌&&◌, nat_le, List, Option, Some, None, decimal, bytes_eq, if◌then◌else◌}
use Rattle.std.specs.Str.Parse.{digits_value}

-- the number, if this is how it is written in decimal and it is at most so much
abbrev pub written_up_to : (most n : ℕ) → List ℕ → Option ℕ
written_up_to most n word = if bytes_eq word (decimal n) && nat_le n most then Some n else None

-- the number up to this one that the word is in decimal
abbrev pub number_up_to : (most : ℕ) → List ℕ → Option ℕ
number_up_to most word = written_up_to most (digits_value 10 word) word
