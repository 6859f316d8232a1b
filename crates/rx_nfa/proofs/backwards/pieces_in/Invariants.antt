use Rattle.std.proofs.Common.{◌≡◌, ◌++◌, drop}
use Rattle.rx_nfa.specs.Directed.{pieces_in}
use Rattle.rx_nfa.proofs.backwards.pieces_in.Given as goal

abbrev pub invariant-loop-range : goal.invariant-loop-range
invariant-loop-range l = l.pieces.items ++ pieces_in (drop l.range-index l.ranges) ≡ pieces_in l.ranges
