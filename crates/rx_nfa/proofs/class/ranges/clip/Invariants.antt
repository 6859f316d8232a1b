use Rattle.std.proofs.Common.{◌≡◌, ◌++◌, drop}
use Rattle.rx_nfa.specs.Ranges.{clip}
use Rattle.rx_nfa.proofs.class.ranges.clip.Given as goal

abbrev pub invariant-loop-start : goal.invariant-loop-start
invariant-loop-start l = l.parts.items ++ clip l.low l.high (drop l.start-index l.ranges) ≡ clip l.low l.high l.ranges
