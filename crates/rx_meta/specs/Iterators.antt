-- The iterators over the matches of a regex and over what lies between them. A contract sees what is still to come of each as a
-- whole list.
use Rattle.std.specs.Prelude.{◌≡◌, ℕ, zero, suc, ◌+◌, ◌≤◌, ◌<◌, ◌⊎◌, Bool, true, false, not, is_ok, List, [], ◌∷◌, length, Option, Some, None, Result, Ok, Err, IfOk, IfSome, OnErr, if◌then◌else◌}
use Rattle.rx_model.specs.Search.{Match}
use Rattle.rx_search.specs.Captures.{CapturesValue}
use Rattle.rx_meta.specs.Gaps.{gaps_from, gaps_up_to, span_between}
use Rattle.rx_search.specs.Input.{InputValue}
use Rattle.rx_search.specs.Matches.{MatchValue, match_value}
use Rattle.rx_search.specs.Searcher as successive
use Rattle.rx_search.specs.Searcher.{SearcherValue, fresh, moved_past, places_left, AtEachPlace, IsAnsweredBy}
use Rattle.rx_search.specs.Told.{LiesIn}
use Rattle.rx_memory.specs.declared.memory.Memory.{Memory}
use Rattle.rx_search.specs.declared.span.Span.{Span}
use Rattle.rx_meta.specs.Captures.{IsToldWith}
use Rattle.rx_meta.specs.Finder.{PromisesFor}
use Rattle.rx_meta.specs.Regex.{RegexValue, pattern_count, searches}
use Rattle.rx_meta.specs.Search.{IsAnswer}

-- An iterator over matches: the regex, where the searches have come to, and whether it is at its end.
pub record MatchesValue : Type 0 where
  pub regex : RegexValue
  pub searcher : SearcherValue
  pub ended : Bool

-- before the first match in the input
abbrev pub begun : RegexValue → InputValue → MatchesValue
begun regex v = record { regex = regex; searcher = fresh v; ended = false }

-- the matches that are still to come
abbrev pub matches_to_come : MatchesValue → List Match
matches_to_come it = if it.ended then [] else successive.to_come (searches it.regex) it.searcher

-- each search that it may make promises its answer
abbrev pub PromisesEach : MatchesValue → Type 0
PromisesEach it = AtEachPlace (PromisesFor it.regex) it.searcher.input

-- how many items may still come, an error among them
abbrev pub most_left : MatchesValue → ℕ
most_left it = if it.ended then 0 else places_left it.searcher + 1

-- What an iterator answers where an item is given: the first of what was to come, and then the rest is to come; or an error,
-- after which nothing is to come.
abbrev pub GivesFirst : {A B E : Type 0} → (Is : A → B → Type 0) → (old new : List A) → Result B E → Type 0
GivesFirst {A} Is old new (Ok given) = (first : A) × Is first given × (old ≡ first ∷ new)
GivesFirst Is old new (Err e) = new ≡ []

-- What an iterator answers: an item, or nothing where nothing was to come.
abbrev pub GivesNext : {A B E : Type 0} → (Is : A → B → Type 0) → (old new : List A) → Option (Result B E) → Type 0
GivesNext Is old new None = (old ≡ []) × (new ≡ [])
GivesNext Is old new (Some item) = GivesFirst Is old new item

-- the match that is reported is this one
abbrev pub IsReported : Match → MatchValue → Type 0
IsReported m given = given ≡ match_value m

-- the span that is given is this one
abbrev pub IsSpan : Span → Span → Type 0
IsSpan span given = given ≡ span

-- What a search of the input answers, promised or not.
pub record IsFoundIn (regex : RegexValue) (v : InputValue) (found : Option MatchValue) : Type 0 where
  pub answer : IsAnswer regex v match_value found
  pub in_range : IfSome found (λ m. m.pattern < pattern_count regex)

-- What holds of each match that an iterator gives, promised or not.
abbrev pub IsGiven : MatchesValue → MatchValue → Type 0
IsGiven it given = IsAnsweredBy (IsFoundIn it.regex) it.searcher (Some given)

-- it gives nothing since a search answered none
abbrev pub NoneIsFound : MatchesValue → Type 0
NoneIsFound it = IsAnsweredBy (IsFoundIn it.regex) it.searcher None

-- What holds of what an iterator gives, promised or not.
abbrev pub IsOfSearch : {E : Type 0} → MatchesValue → Option (Result MatchValue E) → Type 0
IsOfSearch it None = NoneIsFound it
IsOfSearch it (Some item) = IfOk item (IsGiven it)

-- So many matches come before a search answers none, promised or not: each is what a search answers, and the next one is searched for
-- from its end on.
abbrev pub ComeBeforeNone : RegexValue → SearcherValue → ℕ → Type 0
ComeBeforeNone regex s zero = IsAnsweredBy (IsFoundIn regex) s None
ComeBeforeNone regex s (suc n) =
    (m : MatchValue) × LiesIn s.input m × IsAnsweredBy (IsFoundIn regex) s (Some m) × ComeBeforeNone regex (moved_past m s) n

-- Where the searches have come to after a call: past the match that was given, and else where they were.
abbrev pub IsMovedBy : {E : Type 0} → (old new : SearcherValue) → Result MatchValue E → Type 0
IsMovedBy old new (Ok m) = new ≡ moved_past m old
IsMovedBy old new (Err e) = new ≡ old

abbrev pub IsMoved : {E : Type 0} → (old new : SearcherValue) → Option (Result MatchValue E) → Type 0
IsMoved old new None = new ≡ old
IsMoved old new (Some item) = IsMovedBy old new item

-- What holds of the captures that an iterator gives, promised or not: they are told of a match, after which the next search
-- begins.
abbrev pub AreGiven : (old new : MatchesValue) → CapturesValue → Type 0
AreGiven old new given =
    (m : MatchValue) × (new.searcher ≡ moved_past m old.searcher) × LiesIn old.searcher.input m
    × IsAnsweredBy (λ v found. IsToldWith old.regex v given found) old.searcher (Some m)

-- What holds of what an iterator over captures gives, promised or not. Where it gives nothing its searches stay where they were.
abbrev pub AreOfSearch : {E : Type 0} → (old new : MatchesValue) → Option (Result CapturesValue E) → Type 0
AreOfSearch old new None = (new.searcher ≡ old.searcher) × NoneIsFound old
AreOfSearch old new (Some item) = IfOk item (AreGiven old new)

-- It is at its end after an error, and where nothing was given; and a further call gives nothing.
abbrev pub IsEndedAfter : {T E : Type 0} → Option (Result T E) → (ended : Bool) → Type 0
IsEndedAfter None ended = ended ≡ true
IsEndedAfter (Some item) ended = ended ≡ not (is_ok item)

-- This holds after an error, and where nothing was given.
abbrev pub AfterLast : {T E : Type 0} → Option (Result T E) → Type 0 → Type 0
AfterLast None Holds = Holds
AfterLast (Some item) Holds = OnErr item Holds

-- An iterator over what lies between matches: the matches to come, and where the gap that comes next begins; None at its end.
pub record SplitValue : Type 0 where
  pub matches : MatchesValue
  pub rest : Option ℕ

-- before the first gap: it begins with the text, wherever the span does
abbrev pub split_begun : RegexValue → InputValue → SplitValue
split_begun regex v = record { matches = begun regex v; rest = Some 0 }

-- the length of the text that is split
abbrev pub text_len : SplitValue → ℕ
text_len s = length s.matches.searcher.input.haystack

-- The gap that is given reaches to a match that a search answered, after which the next one begins; or to the end of the text, since a
-- search answered none, and then no further one comes.
abbrev pub IsCut : (old new : SplitValue) → Span → Type 0
IsCut old new span =
    ((m : MatchValue) × IsGiven old.matches m × (span.end ≡ m.start) × (new.rest ≡ Some m.end)
    × (new.matches.searcher ≡ moved_past m old.matches.searcher))
    ⊎ (NoneIsFound old.matches × (span.end ≡ text_len old) × (new.rest ≡ None) × (new.matches.searcher ≡ old.matches.searcher))

-- all the rest as the last piece, if one is to come
abbrev pub last_from : (len : ℕ) → Option ℕ → Option (Result Span Memory)
last_from len None = None
last_from len (Some i) = Some (Ok (span_between (i, len)))

-- from where the next gap begins, if one is to come
abbrev pub gaps_to_come_from : SplitValue → Option ℕ → List Span
gaps_to_come_from s None = []
gaps_to_come_from s (Some i) = gaps_from (text_len s) i (matches_to_come s.matches)

-- the gaps that are still to come
abbrev pub gaps_to_come : SplitValue → List Span
gaps_to_come s = gaps_to_come_from s s.rest

-- from where the next piece begins, if one is to come
abbrev pub pieces_from : (limit : ℕ) → SplitValue → Option ℕ → List Span
pieces_from limit s None = []
pieces_from limit s (Some i) = gaps_up_to limit (text_len s) i (matches_to_come s.matches)

-- so many of the gaps that are still to come, of which the last one is all the rest
abbrev pub pieces_up_to : (limit : ℕ) → SplitValue → List Span
pieces_up_to limit s = pieces_from limit s s.rest

-- The gap that comes next begins in the text, and not after the place from which the next match is searched; and the iterator over
-- matches is not at its end.
abbrev pub RestsWithin : MatchesValue → Option ℕ → Type 0
RestsWithin it None = Unit {0}
RestsWithin it (Some i) = (i ≤ it.searcher.input.start) × (i ≤ length it.searcher.input.haystack) × (it.ended ≡ false)

-- at most one more than matches, and none where no gap is to come
abbrev pub gaps_bound : Option ℕ → ℕ → ℕ
gaps_bound None n = 0
gaps_bound (Some i) n = n + 1

-- how many items may still come, an error among them
abbrev pub most_gaps_left : SplitValue → ℕ
most_gaps_left s = gaps_bound s.rest (most_left s.matches)

-- An iterator over at most so many pieces.
pub record SplitNValue : Type 0 where
  pub splits : SplitValue
  -- how many pieces may still come
  pub limit : ℕ

-- the pieces that are still to come
abbrev pub pieces_to_come : SplitNValue → List Span
pieces_to_come s = pieces_up_to s.limit s.splits

-- no further piece comes
abbrev pub IsOver : SplitNValue → Type 0
IsOver s = (s.limit ≡ 0) ⊎ (s.splits.rest ≡ None)

-- a piece of a text of this length
pub record IsPieceOf (len : ℕ) (span : Span) : Type 0 where
  pub in_order : span.start ≤ span.end
  pub within : span.end ≤ len
