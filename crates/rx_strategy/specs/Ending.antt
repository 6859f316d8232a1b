-- Patterns of which each match ends where the searched span does.
use Rattle.std.specs.Prelude.{◌≡◌, ℕ, ◌≤◌, Bool, false, List, Option, Some, None, slice_get}
use Rattle.rx_model.specs.Expression.{Expression}
use Rattle.rx_model.specs.Meaning.{Means}
use Rattle.rx_model.specs.Search.{Patterns}
use Rattle.rx_search.specs.Input.{InputValue}
use Rattle.rx_search.specs.Matches.{MatchValue, HalfMatchValue}
use Rattle.rx_prefilter.specs.Choices.{chosen, is_fast}

-- each part of the input's span that a pattern means ends where the span does
pub record EndsWithSpan (r : Patterns) (v : InputValue) : Type 0 where
  pub ends : (p : ℕ) (h : Expression) → slice_get r.expressions p ≡ Some h → (i j : ℕ) → v.start ≤ i → j ≤ v.end → Means r.terminator v.haystack h i j → j ≡ v.end

-- the match from there to the end of the input's span
abbrev pub to_end : InputValue → HalfMatchValue → MatchValue
to_end v h = record { pattern = h.pattern; start = h.offset; end = v.end }

-- a prefilter is there, and its search is expected to be fast
abbrev pub is_fast_by : Option (List (List ℕ)) → Bool
is_fast_by None = false
is_fast_by (Some needles) = is_fast (chosen needles) needles
