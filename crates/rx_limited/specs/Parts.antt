-- What a search keeps of the matches that it met: the last one.
use Rattle.std.specs.Prelude.{ℕ, Bool, true, false, List, [], ◌∷◌, Option, Some}
use Rattle.rx_search.specs.Matches.{HalfMatchValue}

-- the last match, where this pattern matches at the place, at which a match may end or not
abbrev pub best_recorded : Bool → (pattern place : ℕ) → Option HalfMatchValue → Option HalfMatchValue
best_recorded true pattern place best = Some (record { pattern = pattern; offset = place })
best_recorded false pattern place best = best

-- the last match, where these patterns match at the place
abbrev pub best_within : (may : ℕ → Bool) → (matches : List ℕ) → (place : ℕ) → Option HalfMatchValue → Option HalfMatchValue
best_within may [] place best = best
best_within may (p ∷ ps) place best = best_recorded (may place) p place best
