-- What is known of a match that was found: the part of the input that it covers, and its start where all matches have one length.
use Rattle.std.specs.Prelude.{◌≡◌, ◌⊎◌, ℕ, ◌-◌, max, true, Some}
use Rattle.rx_model.specs.Expression.{Expression}
use Rattle.rx_model.specs.Length.{minimum_len}
use Rattle.rx_model.specs.Search.{anchored_to, is_anchored}
use Rattle.rx_search.specs.Input.{InputValue}
use Rattle.rx_search.specs.Matches.{MatchValue, HalfMatchValue}
use Rattle.rx_hir.specs.Length.{maximum_len, saturated, in_64_bits}

-- the input narrowed to the match: to its span, anchored to its pattern
abbrev pub narrowed : InputValue → MatchValue → InputValue
narrowed v m = record v { start = m.start; end = m.end; anchor = anchored_to m.pattern }

-- each match of the expression has this length
abbrev pub IsLenOf : Expression → ℕ → Type 0
IsLenOf h len = (saturated (minimum_len h) ≡ Some len) × (in_64_bits (maximum_len h) ≡ Some len)

-- the match of this length that ends there, as far as it lies in the span
abbrev pub of_len : InputValue → ℕ → HalfMatchValue → MatchValue
of_len v len end = record { pattern = end.pattern; start = max v.start (end.offset - len); end = end.offset }

-- a match that ends there begins where the span does: it ends there too, or the search is anchored
abbrev pub BeginsWithSpan : InputValue → HalfMatchValue → Type 0
BeginsWithSpan v end = (end.offset ≡ v.start) ⊎ (is_anchored v.anchor ≡ true)

-- the match that begins where the span does and ends there
abbrev pub from_start : InputValue → HalfMatchValue → MatchValue
from_start v end = record { pattern = end.pattern; start = v.start; end = end.offset }
