-- The characters of the names of groups.
use Rattle.std.specs.Prelude.{ℕ, Bool, ◌||◌, ◌==◌, if◌then◌else◌}
use Rattle.std.specs.Char.{is_ascii_digit}
use Rattle.unicode.specs.Binary.{is_alphabetic}

-- a name begins with `_` or an alphabetic character
abbrev pub is_capture_start : ℕ → Bool
is_capture_start c = (c == 95) || is_alphabetic c

-- it goes on with these, ASCII digits, `.`, `[` and `]`
abbrev pub is_capture_more : ℕ → Bool
is_capture_more c = is_capture_start c || is_ascii_digit c || (c == 46) || (c == 91) || (c == 93)

-- the character may stand in a name, first or later
abbrev pub is_capture_char : ℕ → (first : Bool) → Bool
is_capture_char c first = if first then is_capture_start c else is_capture_more c
