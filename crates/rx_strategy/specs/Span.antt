-- The span of a match in the slots of its pattern.
use Rattle.std.specs.Prelude.{ℕ, ◌+◌, ◌*◌, ◌==◌, Option, Some, None, if◌then◌else◌}
use Rattle.rx_search.specs.Matches.{MatchValue}

-- The place in a slot: in the two slots of the pattern that matched, where its match starts and where it ends, and none in
-- any other.
abbrev pub span_slot : Option MatchValue → (slot : ℕ) → Option ℕ
span_slot None slot = None
span_slot (Some m) slot = if slot == 2 * m.pattern then Some m.start else if slot == 2 * m.pattern + 1 then Some m.end else None
