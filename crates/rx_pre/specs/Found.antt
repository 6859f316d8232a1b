-- Where a search for literals finds one, and the match that it is.
use Rattle.std.specs.Prelude.{ℕ, ◌≤◌, ◌==◌, nat_lt, List, Option, Some, None, if◌then◌else◌}
use Rattle.rx_model.specs.Search.{Anchor, free, anchored, anchored_to}
use Rattle.rx_search.specs.Input.{InputValue}
use Rattle.rx_search.specs.Matches.{MatchValue}
use Rattle.rx_search.specs.declared.span.Span.{Span}
use Rattle.rx_prefilter.specs.Needles.{find_in, prefix_in}

-- the part of the haystack that is searched
abbrev pub part_of : InputValue → Span
part_of v = record { start = v.start; end = v.end }

-- where the first literal lies that begins the part, in a search for this pattern alone
abbrev pub prefix_at : List (List ℕ) → InputValue → (pattern : ℕ) → Option Span
prefix_at needles v pattern = if pattern == 0 then prefix_in needles v.haystack (part_of v) else None

-- where the first literal lies at the least place at which a match may begin
abbrev pub span_from : List (List ℕ) → InputValue → Anchor → Option Span
span_from needles v free = find_in needles v.haystack (part_of v)
span_from needles v anchored = prefix_in needles v.haystack (part_of v)
span_from needles v (anchored_to pattern) = prefix_at needles v pattern

-- .. in the input's span
abbrev pub span_in : List (List ℕ) → InputValue → Option Span
span_in needles v = if nat_lt v.end v.start then None else span_from needles v v.anchor

-- it lies in the input's span
abbrev pub LiesWithin : InputValue → Span → Type 0
LiesWithin v span = (v.start ≤ span.start) × (span.start ≤ span.end) × (span.end ≤ v.end)

-- the match of the only pattern that covers the span
abbrev pub match_of : Span → MatchValue
match_of span = record { pattern = 0; start = span.start; end = span.end }

-- the place in a slot: where the match starts, where it ends, and none in any other
abbrev pub slot_in : Option MatchValue → (slot : ℕ) → Option ℕ
slot_in None slot = None
slot_in (Some m) slot = if slot == 0 then Some m.start else if slot == 1 then Some m.end else None
