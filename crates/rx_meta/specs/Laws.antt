-- What the laws of a regex's searches say.
use Rattle.std.specs.Prelude.{◌≡◌, ℕ, ◌+◌, ◌*◌, ◌≤◌, ◌<◌, true, List, [], ◌∷◌, length, Option, Some, None, slice_get, slice_index_or, IsTrue}
use Rattle.rx_model.specs.Expression.{Expression}
use Rattle.rx_model.specs.Matches.{IsSought, IsSlotOf}
use Rattle.rx_model.specs.Meaning.{Means}
use Rattle.rx_model.specs.Search.{Patterns, Match, is_anchored, is_permitted}
use Rattle.rx_search.specs.Captures.{CapturesValue}
use Rattle.rx_search.specs.Input.{InputValue, from_place}
use Rattle.rx_search.specs.Matches.{MatchValue}
use Rattle.rx_search.specs.PatternGroups.{pattern_groups}
use Rattle.rx_search.specs.declared.span.Span.{Span}

-- the second match does not start before the end of the first one
abbrev pub IsAfter : (m n : Match) → Type 0
IsAfter m n = m.trace.end ≤ n.start

-- and it ends after the end of the first one, so that they are not both empty at one place
abbrev pub EndsBehind : (m n : Match) → Type 0
EndsBehind m n = (m.trace.end ≤ n.start) × (m.trace.end < n.trace.end)

-- the match lies in the input's span
abbrev pub IsInSpan : InputValue → Match → Type 0
IsInSpan v m = (v.start ≤ m.start) × (m.start ≤ m.trace.end) × (m.trace.end ≤ v.end)

-- the second match starts after the first one, and not before its end
abbrev pub IsBehind : (m n : Match) → Type 0
IsBehind m n = (m.start < n.start) × (m.trace.end ≤ n.start)

-- The spans lie end to end from i to j: the first one starts at i, each other one where the one before it ends, and the last
-- one ends at j.
abbrev pub LeadFrom : (i j : ℕ) → List Span → Type 0
LeadFrom i j [] = i ≡ j
LeadFrom i j (span ∷ spans) = (span.start ≡ i) × (span.start ≤ span.end) × LeadFrom span.end j spans

-- a match is found again by the search that begins at its start
abbrev pub FindsAgain : (InputValue → Option Match) → InputValue → Type 0
FindsAgain searches v = (i : ℕ) (m : Match) → searches (from_place i v) ≡ Some m → searches (from_place m.start v) ≡ Some m

-- one of the first list, then one of the second, and so on
abbrev pub in_turn : (xs ys : List Span) → List Span
in_turn [] ys = ys
in_turn (x ∷ xs) [] = x ∷ xs
in_turn (x ∷ xs) (y ∷ ys) = x ∷ y ∷ in_turn xs ys

-- The captures are for the groups of the patterns, and have room for the implicit one of each at least.
pub record HaveRoomFor (r : Patterns) (c : CapturesValue) : Type 0 where
  pub groups : c.groups ≡ pattern_groups r.expressions
  pub slots : 2 * length r.expressions ≤ length c.slots

-- no slot of an explicit group holds a place
abbrev pub AreImplicitAlone : Patterns → List (Option ℕ) → Type 0
AreImplicitAlone r slots = (k : ℕ) → 2 * length r.expressions ≤ k → k < length slots → slice_index_or slots k None ≡ None

-- each slot that both lists have holds the same in both
abbrev pub HoldAlike : (slots others : List (Option ℕ)) → Type 0
HoldAlike slots others = (k : ℕ) → k < length slots → k < length others → slice_index_or slots k None ≡ slice_index_or others k None

-- the slots of the whole match, as far as they are there, hold where this match starts and ends
pub record HoldSpanOf (slots : List (Option ℕ)) (m : MatchValue) : Type 0 where
  pub start : 2 * m.pattern < length slots → slice_index_or slots (2 * m.pattern) None ≡ Some m.start
  pub end : 2 * m.pattern + 1 < length slots → slice_index_or slots (2 * m.pattern + 1) None ≡ Some m.end

-- no slot holds a place but those of this pattern's groups
abbrev pub AreOfPatternAlone : Patterns → List (Option ℕ) → (p : ℕ) → Type 0
AreOfPatternAlone r slots p =
    (h : Expression) → slice_get r.expressions p ≡ Some h → (k : ℕ) → k < length slots → (IsSlotOf r p h k → ⊥) → slice_index_or slots k None ≡ None

-- the pattern means a part of the input's span, which begins where a search may look for it
pub record MeansInSpan (r : Patterns) (v : InputValue) (p : ℕ) : Type 0 where
  pub sought : IsSought v.anchor p
  pub expression : Expression
  pub is_there : slice_get r.expressions p ≡ Some expression
  pub start : ℕ
  pub end : ℕ
  pub within : (v.start ≤ start) × (start ≤ end) × (end ≤ v.end)
  pub first : is_anchored v.anchor ≡ true → start ≡ v.start
  pub meant : Means r.terminator v.haystack expression start end

-- and a match may begin there: not inside a character, where the patterns ask for that
abbrev pub MeansFromPermitted : Patterns → InputValue → (p : ℕ) → Type 0
MeansFromPermitted r v p = (m : MeansInSpan r v p) × IsTrue (is_permitted r.utf8_empty v.haystack m.start)

-- no pattern that is sought means an empty part of the input's span
abbrev pub HasNoEmptyMatch : Patterns → InputValue → Type 0
HasNoEmptyMatch r v =
    (p : ℕ) (h : Expression) (i : ℕ) → slice_get r.expressions p ≡ Some h → IsSought v.anchor p → v.start ≤ i → i ≤ v.end
    → Means r.terminator v.haystack h i i → ⊥
