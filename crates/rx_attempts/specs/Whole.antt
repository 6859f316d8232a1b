-- What a search forwards from a start comes to.
use Rattle.std.specs.Prelude.{◌≡◌, ℕ, false, Option, Some, None, Result, Ok, Err, is_some}
use Rattle.rx_model.specs.Search.{Patterns}
use Rattle.rx_search.specs.Input.{InputValue, next_in}
use Rattle.rx_search.specs.Matches.{MatchValue, HalfMatchValue, half_match_value}
use Rattle.rx_search.specs.declared.anchored.MatchKind.{MatchKind}
use Rattle.rx_dfa.specs.Search.{IsAnswerFor}
use Rattle.rx_attempts.specs.Inputs.{from_start, ended_from}

-- the match that was found, if there was one
abbrev pub match_found : Result MatchValue ℕ → Option MatchValue
match_found (Ok m) = Some m
match_found (Err place) = None

-- it is the match from this start, and there is none where nothing is found
abbrev pub IsWhole : MatchKind → Patterns → InputValue → (start : HalfMatchValue) → Option MatchValue → Type 0
IsWhole kind r v start None = is_some (next_in r (from_start v start)) ≡ false
IsWhole kind r v start (Some m) =
    (end : HalfMatchValue) × (m ≡ ended_from start end) × IsAnswerFor kind r (from_start v start) half_match_value (Some end)
