use Rattle.std.proofs.Common.{◌≡◌, ◌++◌, drop}
use Rattle.rx_class.specs.Outside.{outside}
use Rattle.rx_class.specs.Ranges.{next_scalar}
use Rattle.rx_class.specs.Scalars.{previous_scalar, or_past}
use Rattle.rx_class.proofs.scalars.ranges_outside.Given as goal

abbrev pub invariant-loop-first : goal.invariant-loop-first
invariant-loop-first l =
    l.found.items ++ outside next_scalar previous_scalar 0x10FFFF (or_past l.low) (drop l.first-index l.ranges)
    ≡ outside next_scalar previous_scalar 0x10FFFF 0 l.ranges
