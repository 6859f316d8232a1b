use Rattle.std.proofs.Common.{◌≡◌, [], drop}
use Rattle.rx_class.specs.Merged.{add_all}
use Rattle.rx_class.specs.Ranges.{next_byte}
use Rattle.rx_class.proofs.bytes.fewest.Given as goal

abbrev pub invariant-loop-low : goal.invariant-loop-low
invariant-loop-low l = add_all next_byte l.found.items (drop l.low-index l.sorted) ≡ add_all next_byte [] l.sorted
