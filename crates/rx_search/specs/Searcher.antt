-- Searching a text for one match after another.
use Rattle.std.specs.Prelude.{ℕ, ◌+◌, ◌-◌, ◌≡◌, ◌≤◌, ◌⊎◌, true, List, [], ◌∷◌, map, Contains, Option, Some, None}
use Rattle.rx_model.specs.Search.{Match, is_empty_at, next_after, matches_from}
use Rattle.rx_search.specs.Matches.{MatchValue, match_value}
use Rattle.rx_search.specs.Input.{InputValue, from_place}

-- The input of the next search, and where the last match ended, if there was one.
pub record SearcherValue : Type 0 where
  pub input : InputValue
  pub last_end : Option ℕ

-- before the first match
abbrev pub fresh : InputValue → SearcherValue
fresh v = record { input = v; last_end = None }

-- after a match
abbrev pub moved_past : MatchValue → SearcherValue → SearcherValue
moved_past m s = record { input = from_place m.end s.input; last_end = Some m.end }

-- where the last match ended the next search begins
abbrev pub begins_at : Option ℕ → InputValue → Type 0
begins_at None v = Unit {0}
begins_at (Some last) v = (v.start ≡ last) × (last ≤ v.end)

-- what is found in an input whose start is i
abbrev pub search_from : (InputValue → Option Match) → InputValue → ℕ → Option Match
search_from searches v i = searches (from_place i v)

-- the first match, or the one after a match that ended at a place
abbrev pub match_after : (ℕ → Option Match) → Option ℕ → ℕ → Option Match
match_after search None start = search start
match_after search (Some last) start = next_after search last

-- the match that comes next
abbrev pub upcoming : (InputValue → Option Match) → SearcherValue → Option Match
upcoming searches s = match_after (search_from searches s.input) s.last_end s.input.start

-- how many matches may still come, since each ends after the one before
abbrev pub places_after : Option ℕ → InputValue → ℕ
places_after None v = v.end + 1 - v.start + 1
places_after (Some last) v = v.end + 1 - last

abbrev pub places_left : SearcherValue → ℕ
places_left s = places_after s.last_end s.input

-- the matches still to come
unfoldable pub to_come : (InputValue → Option Match) → SearcherValue → List Match
to_come searches s = matches_from (search_from searches s.input) (places_left s) (upcoming searches s)

-- all matches in an input, one after another
abbrev pub successive : (InputValue → Option Match) → InputValue → List Match
successive searches v = to_come searches (fresh v)

-- it holds of each search of the input, from whatever place
abbrev pub AtEachPlace : (InputValue → Type 0) → InputValue → Type 0
AtEachPlace Holds v = (i : ℕ) → Holds (from_place i v)

-- Each match that a search answers lies between the place from which it searches and the end of the span.
pub record AnswersWithin (searches : InputValue → Option Match) (v : InputValue) : Type 0 where
  pub within : (i : ℕ) (m : Match) → searches (from_place i v) ≡ Some m → (i ≤ m.start) × (m.start ≤ m.trace.end) × (m.trace.end ≤ v.end)

-- What was to come is the match that was given, and then what is still to come. Where none was given, nothing was to come.
abbrev pub Gives : (InputValue → Option Match) → SearcherValue → Option MatchValue → SearcherValue → Type 0
Gives searches old None new = to_come searches old ≡ []
Gives searches old (Some m) new = (x : Match) × (match_value x ≡ m) × (to_come searches old ≡ x ∷ to_come searches new)

-- It is the answer of a search from the start of the input, or of the one from the place behind the last match.
abbrev pub IsAnsweredBy : (Answers : InputValue → Option MatchValue → Type 0) → SearcherValue → Option MatchValue → Type 0
IsAnsweredBy Answers s found = Answers s.input found ⊎ ((last : ℕ) × (s.last_end ≡ Some last) × Answers (from_place (last + 1) s.input) found)

-- the searcher as it was, or after one of the matches that were to come
abbrev pub IsReached : (searches : InputValue → Option Match) (Promised : Type 0) → (at_first now : SearcherValue) → Type 0
IsReached searches Promised s t =
    (t ≡ s)
    ⊎ ((m : MatchValue) × (t ≡ moved_past m s) × (s.input.start ≤ m.end) × (m.end ≤ s.input.end)
    × (Promised → Contains (map match_value (to_come searches s)) m))

module _ {E : Type 0} (Fails : InputValue → E → Type 0) (searches : InputValue → Option Match) (Promised : Type 0) where
  -- Why the next match is not told: the search from the start of the input fails so; or, where that one finds the empty match
  -- at the end of the last match, the search from the place behind it.
  abbrev pub HasCause : SearcherValue → E → Type 0
  HasCause s e =
      Fails s.input e
      ⊎ ((last : ℕ) × (s.last_end ≡ Some last) × (Promised → is_empty_at last (searches s.input) ≡ true) × Fails (from_place (last + 1) s.input) e)

  -- why the matches to come are not told: one of them is not, as it is searched for at first or after one of those before it
  abbrev pub HasCauseOfOne : SearcherValue → E → Type 0
  HasCauseOfOne s e = (t : SearcherValue) × IsReached searches Promised s t × HasCause t e
