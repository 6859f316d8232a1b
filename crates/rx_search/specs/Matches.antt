-- What is reported of a match.
use Rattle.std.specs.Prelude.{ℕ}
use Rattle.rx_model.specs.Search.{Match}

-- its pattern, and the span that it covers
pub record MatchValue : Type 0 where
  pub pattern : ℕ
  pub start : ℕ
  pub end : ℕ

-- its pattern, and one end of it
pub record HalfMatchValue : Type 0 where
  pub pattern : ℕ
  pub offset : ℕ

-- the pattern and the span of a match of the model
abbrev pub match_value : Match → MatchValue
match_value m = record { pattern = m.trace.pattern; start = m.start; end = m.trace.end }

-- the pattern and the end of a match of the model
abbrev pub half_match_value : Match → HalfMatchValue
half_match_value m = record { pattern = m.trace.pattern; offset = m.trace.end }
