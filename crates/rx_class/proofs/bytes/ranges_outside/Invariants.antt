use Rattle.std.proofs.Common.{◌≡◌, ◌++◌, drop}
use Rattle.rx_class.specs.Outside.{outside}
use Rattle.rx_class.specs.Ranges.{next_byte}
use Rattle.rx_class.specs.Bytes.{previous_byte, or_past_byte}
use Rattle.rx_class.proofs.bytes.ranges_outside.Given as goal

abbrev pub invariant-loop-first : goal.invariant-loop-first
invariant-loop-first l =
    l.found.items ++ outside next_byte previous_byte 0xFF (or_past_byte l.low) (drop l.first-index l.ranges)
    ≡ outside next_byte previous_byte 0xFF 0 l.ranges
