-- What the making of keys writes to.
use Rattle.std.specs.Prelude.{ℕ, length, Option, Some, None}
use Rattle.rx_dfa.specs.declared.scratch.Scratch.{Scratch}

-- for an NFA of how many states
abbrev pub room_of : Scratch → ℕ
room_of s = length s.walk.seen.marks.items

-- that of the other one, if it is there, and else its own
abbrev pub room_with : (other : Option Scratch) → (own : Scratch) → ℕ
room_with None own = room_of own
room_with (Some other) own = room_of other
