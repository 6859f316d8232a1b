-- The parts of an input that an attempt searches, and the match that it puts together.
use Rattle.std.specs.Prelude.{ℕ}
use Rattle.rx_model.specs.Search.{anchored, anchored_to}
use Rattle.rx_search.specs.Input.{InputValue}
use Rattle.rx_search.specs.Matches.{MatchValue, HalfMatchValue}

-- the span up to this place, to be searched backwards from there
abbrev pub up_to : InputValue → (place : ℕ) → InputValue
up_to v place = record v { end = place; anchor = anchored }

-- the span from this start on, to be searched for the end of a match of its pattern
abbrev pub from_start : InputValue → HalfMatchValue → InputValue
from_start v h = record v { start = h.offset; anchor = anchored_to h.pattern }

-- the match from this start to this end, with the pattern that ends there
abbrev pub ended_from : (start end : HalfMatchValue) → MatchValue
ended_from start end = record { pattern = end.pattern; start = start.offset; end = end.offset }
