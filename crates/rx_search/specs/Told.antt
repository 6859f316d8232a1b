-- What a search tells of a match.
use Rattle.std.specs.Prelude.{◌≡◌, ℕ, ◌<◌, ◌≤◌, Bool, true, false, List, length, Option, Some, None, slice_index_or, if◌then◌else◌}
use Rattle.rx_model.specs.Search.{Patterns, WhichCaptures, all, implicit, none, Match, told_of, slot_value}
use Rattle.rx_model.specs.Matches.{IsMatch}
use Rattle.rx_search.specs.Input.{InputValue, next_in}
use Rattle.rx_search.specs.Matches.{MatchValue, HalfMatchValue}

-- matches are told
abbrev pub tells : WhichCaptures → Bool
tells all = true
tells implicit = true
tells none = false

-- the next match of the patterns in the input's span, where matches are told
abbrev pub told_in : Patterns → InputValue → Option Match
told_in r v = if tells r.which_captures then next_in r v else None

-- there is a match of the patterns in the input's span, and of what is told of it this holds
abbrev pub IsMatchWith : Patterns → InputValue → (Match → Type 0) → Type 0
IsMatchWith r v Holds = (m : Match) × IsMatch r v.haystack v.anchor v.end v.start m × Holds (told_of r.which_captures m)

-- the pattern of a match
abbrev pub matched_pattern : Match → ℕ
matched_pattern m = m.trace.pattern

-- the slots are those of the match
abbrev pub HasSlots : List (Option ℕ) → Match → Type 0
HasSlots slots m = (k : ℕ) → k < length slots → slice_index_or slots k None ≡ slot_value m k

-- each place that a slot holds lies in the input's span
abbrev pub AreWithin : InputValue → List (Option ℕ) → Type 0
AreWithin v slots = (k place : ℕ) → slice_index_or slots k None ≡ Some place → (v.start ≤ place) × (place ≤ v.end)

-- the match lies in the input's span
abbrev pub LiesIn : InputValue → MatchValue → Type 0
LiesIn v m = (v.start ≤ m.start) × (m.end ≤ v.end)

-- and so does the end of a match
abbrev pub HalfLiesIn : InputValue → HalfMatchValue → Type 0
HalfLiesIn v half = (v.start ≤ half.offset) × (half.offset ≤ v.end)
