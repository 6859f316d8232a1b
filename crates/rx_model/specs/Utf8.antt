-- Patterns that mean UTF-8, and where their matches may start.
use Rattle.std.specs.Prelude.{◌≡◌, ℕ, ◌-◌, ◌<◌, true, false, List, take, drop, Some, slice_get, IsUtf8}
use Rattle.rx_model.specs.Expression.{Expression, AreOrdered}
use Rattle.rx_model.specs.Meaning.{Means}
use Rattle.rx_model.specs.Search.{Patterns}

-- the patterns, where a match may start inside a character too
abbrev pub anywhere : Patterns → Patterns
anywhere r = record r { utf8_empty = false }

-- the patterns, where none may
abbrev pub between_characters : Patterns → Patterns
between_characters r = record r { utf8_empty = true }

-- The text is UTF-8, and so is each part of it that is not empty and that one of the patterns means. The counts of each
-- repetition are in order, as the laws that tie runs to meaning ask.
pub record MeansUtf8 (r : Patterns) (text : List ℕ) : Type 0 where
  pub whole : IsUtf8 text
  pub ordered : (p : ℕ) (h : Expression) → slice_get r.expressions p ≡ Some h → AreOrdered h
  pub parts : (p : ℕ) (h : Expression) → slice_get r.expressions p ≡ Some h
      → (i j : ℕ) → i < j → Means r.terminator text h i j → IsUtf8 (take (j - i) (drop i text))
