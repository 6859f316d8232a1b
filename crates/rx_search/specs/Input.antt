-- What a search is given.
use Rattle.std.specs.Prelude.{ℕ, ◌+◌, ◌-◌, ◌≤◌, Bool, true, false, ◌&&◌, nat_le, List, length, Option}
use Rattle.rx_model.specs.Search.{Patterns, Anchor, free, is_permitted, Match, next_match}

-- The haystack, the span of it that is searched, where a match may begin, and whether any match will do.
pub record InputValue : Type 0 where
  pub haystack : List ℕ
  pub start : ℕ
  pub end : ℕ
  pub anchor : Anchor
  pub earliest : Bool

-- the whole haystack, from anywhere
abbrev pub whole : List ℕ → InputValue
whole text = record { haystack = text; start = 0; end = length text; anchor = free; earliest = false }

-- The span ends within the haystack, and begins at most one place after its own end.
pub record IsSpanned (v : InputValue) : Type 0 where
  pub end : v.end ≤ length v.haystack
  pub start : v.start ≤ v.end + 1

-- the same search, of the places from i on
abbrev pub from_place : ℕ → InputValue → InputValue
from_place i v = record v { start = i }

-- how long the input's span is; nothing is left of a done one
abbrev pub span_len : InputValue → ℕ
span_len v = v.end - v.start

-- a place at which a character begins, or the end of the text
abbrev pub is_char_boundary : List ℕ → ℕ → Bool
is_char_boundary text at = nat_le at (length text) && is_permitted true text at

-- the next match of the patterns in the input's span
abbrev pub next_in : Patterns → InputValue → Option Match
next_in patterns v = next_match patterns v.haystack v.anchor v.end v.start
