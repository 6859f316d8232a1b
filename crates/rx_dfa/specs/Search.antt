-- What the searches of a DFA answer.
use Rattle.std.specs.Prelude.{◌≡◌, ◌⊎◌, ℕ, ◌+◌, ◌≤◌, true, false, Option, Some, option_map, is_some, IfSome, IfNone, slice_get}
use Rattle.rx_model.specs.Expression.{Expression, AreOrdered}
use Rattle.rx_model.specs.Search.{anchored_to, is_anchored, is_permitted, Match, Patterns}
use Rattle.rx_search.specs.Input.{InputValue, next_in}
use Rattle.rx_search.specs.Matches.{HalfMatchValue, half_match_value}
use Rattle.rx_search.specs.Told.{IsMatchWith}
use Rattle.rx_search.specs.declared.anchored.MatchKind.{MatchKind}
use Rattle.rx_search.specs.declared.anchored.MatchKind.TheVariants.{All, LeftmostFirst}
use Rattle.rx_search.specs.declared.match_error.MatchError.{MatchError}
use Rattle.rx_search.specs.declared.match_error.MatchError.TheVariants.{Quit, GaveUp, HaystackTooLong, UnsupportedAnchored, Memory}
use Rattle.rx_nfa.specs.Nfa.{Nfa, HasReverseRuns}
use Rattle.rx_nfa.specs.Automaton.{forwards}
use Rattle.rx_nfa.specs.NextMatch.{start_of, next_match_of, next_match_in}
use Rattle.rx_determinize.specs.Span.{loops_in}
use Rattle.rx_determinize.specs.Told.{HasRunTo, MeansUpTo, IsLeastStartWhere}
use Rattle.rx_dfa.specs.Automaton.{Dfa, MakesQuit}

-- Why a search has no answer: the byte at `offset`, in the span or directly beside it, is above 7F, and the NFA asks for words
-- of Unicode; or the automaton's own reasons. It gives up at a place from the span's start to its end.
abbrev pub SearchFails : Nfa → InputValue → (gives_up wants : Type 0) → MatchError → Type 0
SearchFails nfa v gives_up wants (Quit byte offset) = (v.start ≤ offset + 1) × (offset ≤ v.end) × (slice_get v.haystack offset ≡ Some byte) × MakesQuit nfa byte
SearchFails nfa v gives_up wants (GaveUp offset) = (v.start ≤ offset) × (offset ≤ v.end) × gives_up
SearchFails nfa v gives_up wants (HaystackTooLong len) = ⊥
SearchFails nfa v gives_up wants (UnsupportedAnchored mode) = ⊥
SearchFails nfa v gives_up wants Memory = wants

-- It is the end of the next match in a part of the span: in that from `from` to `to`. Where the search is anchored, it is from
-- the span's start.
pub record IsOfOneRun (nfa : Nfa) (v : InputValue) (h : HalfMatchValue) : Type 0 where
  pub from : ℕ
  pub to : ℕ
  pub low : v.start ≤ from
  pub high : to ≤ v.end
  pub begins : is_anchored v.anchor ≡ true → from ≡ v.start
  pub is_next : option_map half_match_value (next_match_of nfa nfa.utf8 v.haystack v.anchor to from) ≡ Some h

-- What a forward search answers under leftmost-first.
pub record IsForwardAnswer (nfa : Nfa) (v : InputValue) (found : Option HalfMatchValue) : Type 0 where
  -- the end of the next match, where not just any match will do
  pub value : v.earliest ≡ false → found ≡ option_map half_match_value (next_match_in nfa v)
  -- something is found exactly where there is a match
  pub exists : is_some found ≡ is_some (next_match_in nfa v)
  -- and it is of one run
  pub is_match : IfSome found (IsOfOneRun nfa v)

-- A run of the NFA that a search of the input's span may begin ends at place e, and accepts this pattern.
abbrev pub HasRunIn : Nfa → InputValue → (pattern e : ℕ) → Type 0
HasRunIn nfa v pattern e =
    (start : ℕ) × (start_of nfa v.anchor ≡ Some start)
    × HasRunTo (forwards nfa.terminator v.haystack) nfa.states start (loops_in v.anchor) v.start pattern e

-- no run ends in the span where a match may end
abbrev pub HasNoEnd : Nfa → InputValue → Type 0
HasNoEnd nfa v =
    (pattern e : ℕ) → v.start ≤ e → e ≤ v.end → is_permitted nfa.utf8 v.haystack e ≡ true → HasRunIn nfa v pattern e → ⊥

-- A run of its pattern ends there, in the span, where a match may end.
pub record IsEnd (nfa : Nfa) (v : InputValue) (h : HalfMatchValue) : Type 0 where
  pub from : v.start ≤ h.offset
  pub to : h.offset ≤ v.end
  pub ends : is_permitted nfa.utf8 v.haystack h.offset ≡ true
  pub runs : HasRunIn nfa v h.pattern h.offset

-- None ends later, and no lesser pattern has a run that ends there.
pub record IsLastEnd (nfa : Nfa) (v : InputValue) (h : HalfMatchValue) : Type 0 where
  pub is_end : IsEnd nfa v h
  pub latest : (pattern e : ℕ) → v.start ≤ e → e ≤ v.end → is_permitted nfa.utf8 v.haystack e ≡ true → HasRunIn nfa v pattern e → e ≤ h.offset
  pub least : (pattern : ℕ) → HasRunIn nfa v pattern h.offset → h.pattern ≤ pattern

-- What a forward search answers under `All`: the last end of any run in the span; or with `earliest` the end of some run.
pub record IsLastAnswer (nfa : Nfa) (v : InputValue) (found : Option HalfMatchValue) : Type 0 where
  -- where not just any match will do
  pub value : v.earliest ≡ false → IfSome found (IsLastEnd nfa v)
  -- nothing is found only where no run ends in the span
  pub none : IfNone found (HasNoEnd nfa v)
  -- what is found is the end of a run
  pub is_end : IfSome found (IsEnd nfa v)

-- What a reverse search answers: the least start of a part up to the span's end that a pattern means, and the least such
-- pattern; or with `earliest` any such start.
pub record IsReverseAnswer (nfa : Nfa) (r : Patterns) (v : InputValue) (found : Option HalfMatchValue) : Type 0 where
  -- where not just any match will do
  pub value : v.earliest ≡ false → IfSome found (IsLeastStartWhere r nfa.utf8 v.haystack v.anchor v.end v.start)
  -- nothing is found only where no such part starts in the span
  pub none : IfNone found ((pattern i : ℕ) → v.start ≤ i → i ≤ v.end → is_permitted nfa.utf8 v.haystack i ≡ true
      → MeansUpTo r v.haystack v.anchor v.end pattern i → ⊥)
  -- what is found is one
  pub is_match : IfSome found (λ h. (v.start ≤ h.offset) × (h.offset ≤ v.end) × (is_permitted nfa.utf8 v.haystack h.offset ≡ true)
      × MeansUpTo r v.haystack v.anchor v.end h.pattern h.offset)

-- why a search for a whole match has no answer: for its end, or for its start
abbrev pub BothFail : (fwd rev : Nfa) → InputValue → (gives_up wants rev_gives_up rev_wants : Type 0) → MatchError → Type 0
BothFail fwd rev v gives_up wants rev_gives_up rev_wants e = SearchFails fwd v gives_up wants e ⊎ SearchFails rev v rev_gives_up rev_wants e

-- the part of the input up to this end of a match, in which its start is sought
abbrev pub part_of : InputValue → HalfMatchValue → InputValue
part_of v h = record v { end = h.offset; anchor = anchored_to h.pattern; earliest = false }

-- What a search for these patterns answers by a DFA of this kind, which is a part of a match: the match itself, or its half.
pub record IsAnswerFor {T : Type 0} (kind : MatchKind) (r : Patterns) (v : InputValue) (part : Match → T) (found : Option T) : Type 0 where
  -- that of the next match, under leftmost-first where not just any match will do
  pub value : kind ≡ LeftmostFirst → v.earliest ≡ false → found ≡ option_map part (next_in r v)
  -- something is found exactly where there is a match
  pub exists : is_some found ≡ is_some (next_in r v)
  -- and it is that of a match
  pub is_match : IfSome found (λ answer. IsMatchWith r v (λ m. answer ≡ part m))

-- the counts of each repetition are in order
abbrev pub AreAllOrdered : Patterns → Type 0
AreAllOrdered r = (p : ℕ) (h : Expression) → slice_get r.expressions p ≡ Some h → AreOrdered h

-- The DFA tells where the matches of these patterns start: it has the runs of the patterns, read backwards, and tells each of them.
pub record TellsStarts (d : Dfa) (r : Patterns) : Type 0 where
  pub runs : HasReverseRuns d.nfa r
  pub kind : d.kind ≡ All
  pub utf8 : r.utf8_empty ≡ d.nfa.utf8
  pub ordered : AreAllOrdered r
