-- What lies between the matches in a text.
use Rattle.std.specs.Prelude.{ℕ, zero, suc, List, [], ◌∷◌, take}
use Rattle.rx_model.specs.Search.{Match}
use Rattle.rx_search.specs.declared.span.Span.{Span}

-- the span from a place to another
abbrev pub span_between : ℕ × ℕ → Span
span_between places = record { start = places.0; end = places.1 }

-- the span of a match
abbrev pub span_of_match : Match → Span
span_of_match m = record { start = m.start; end = m.trace.end }

-- The gaps that the matches leave in a text of this length from place i on: from there to the first match and then those behind it,
-- and without a match all the rest.
abbrev pub gaps_from : (len i : ℕ) → List Match → List Span
gaps_from len i [] = span_between (i, len) ∷ []
gaps_from len i (m ∷ ms) = span_between (i, m.start) ∷ gaps_from len m.trace.end ms

-- The gaps from place i on, at most n of them: those that the first n - 1 matches leave, of which the last one is all the rest.
abbrev pub gaps_up_to : (n len i : ℕ) → List Match → List Span
gaps_up_to zero len i ms = []
gaps_up_to (suc n) len i ms = gaps_from len i (take n ms)
