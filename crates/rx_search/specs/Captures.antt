-- The groups of a match: which pattern matched, and what its slots hold.
use Rattle.std.specs.Prelude.{ℕ, zero, ◌+◌, List, Option, Some, None, length, option_map, slice_index_or}
use Rattle.std.specs.List.{range_with_len}
use Rattle.std.specs.Prelude.{map}
use Rattle.rx_search.specs.GroupInfo.{groups_at, slot_at, index_of}
use Rattle.rx_search.specs.Matches.{MatchValue}
use Rattle.rx_search.specs.declared.span.Span.{Span}

-- The groups of the patterns that were searched for, by the names of each; the pattern that matched, if one did; and what
-- the slots hold.
pub record CapturesValue : Type 0 where
  pub groups : List (List (Option (List ℕ)))
  pub pattern : Option ℕ
  pub slots : List (Option ℕ)

-- what a slot holds; nothing where there is no such slot
abbrev pub held : (slots : List (Option ℕ)) (slot : ℕ) → Option ℕ
held slots slot = slice_index_or slots slot None

-- the span between two places, where both are there
abbrev pub span_of : (start end : Option ℕ) → Option Span
span_of None end = None
span_of (Some start) None = None
span_of (Some start) (Some end) = Some (record { start = start; end = end })

-- the span between the places that a slot and the next one hold
abbrev pub span_from : (slots : List (Option ℕ)) (slot : Option ℕ) → Option Span
span_from slots None = None
span_from slots (Some slot) = span_of (held slots slot) (held slots (slot + 1))

-- the span of a group of the pattern, where both of its slots hold a place
abbrev pub span_in : (c : CapturesValue) (pattern : Option ℕ) (group : ℕ) → Option Span
span_in c None group = None
span_in c (Some p) group = span_from c.slots (slot_at c.groups p group)

-- the span of a group of the pattern that matched
abbrev pub group_span : (c : CapturesValue) (group : ℕ) → Option Span
group_span c group = span_in c c.pattern group

-- how many groups the pattern has; no groups where there is no pattern
abbrev pub groups_of_pattern : (groups : List (List (Option (List ℕ)))) (pattern : Option ℕ) → ℕ
groups_of_pattern groups None = 0
groups_of_pattern groups (Some p) = length (groups_at groups p)

-- how many groups the pattern that matched has
abbrev pub captured_len : (c : CapturesValue) → ℕ
captured_len c = groups_of_pattern c.groups c.pattern

-- the group of the pattern with this name
abbrev pub group_named : (groups : List (List (Option (List ℕ)))) (pattern : Option ℕ) (name : List ℕ) → Option ℕ
group_named groups None name = None
group_named groups (Some p) name = index_of groups p name

-- the span of a group that may not be there
abbrev pub span_of_group : (c : CapturesValue) (group : Option ℕ) → Option Span
span_of_group c None = None
span_of_group c (Some group) = group_span c group

-- the span of the group with this name, of the pattern that matched
abbrev pub named_span : (c : CapturesValue) (name : List ℕ) → Option Span
named_span c name = span_of_group c (group_named c.groups c.pattern name)

-- a match of the pattern at the span, where both are there
abbrev pub match_at : (pattern : Option ℕ) (span : Option Span) → Option MatchValue
match_at None span = None
match_at (Some p) None = None
match_at (Some p) (Some span) = Some (record { pattern = p; start = span.start; end = span.end })

-- the match: the pattern that matched, at the span of its implicit group
abbrev pub captured_match : (c : CapturesValue) → Option MatchValue
captured_match c = match_at c.pattern (group_span c 0)

-- the spans of n groups of the pattern that matched, from a group on
abbrev pub spans_from : (c : CapturesValue) (group n : ℕ) → List (Option Span)
spans_from c group n = map (λ g. group_span c g) (range_with_len group n)

-- the spans of all groups of the pattern that matched, in order
abbrev pub spans : (c : CapturesValue) → List (Option Span)
spans c = spans_from c 0 (captured_len c)
