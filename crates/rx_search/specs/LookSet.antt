-- Sets of look-arounds, by the bits of a number.
use Rattle.std.specs.Prelude.{◌≡◌, ℕ, ◌^◌, Bool, true, not, ◌==◌, List, filter, drop}
use Rattle.std.specs.Int.RustNames.{bit_and}
use Rattle.rx_model.specs.Look.{Look, holds, kinds, look_number}

-- the set has the kind: the bit of the kind's number is 1
unfoldable pub has : (set : ℕ) → Look → Bool
has set kind = not (bit_and set (2 ^ look_number kind) == 0)

-- the kinds that the set has, in order, from the kind of a number on
abbrev pub kinds_from : (set number : ℕ) → List Look
kinds_from set number = filter (has set) (drop number kinds)

abbrev pub kinds_in : (set : ℕ) → List Look
kinds_in set = kinds_from set 0

-- each look-around of the set holds at place i of the text
abbrev pub AllHold : (terminator : ℕ) (text : List ℕ) (set i : ℕ) → Type 0
AllHold terminator text set i = (kind : Look) → has set kind ≡ true → holds terminator text kind i ≡ true
