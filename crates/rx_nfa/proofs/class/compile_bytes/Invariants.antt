use Rattle.std.proofs.Common.{◌≡◌, map, take}
use Rattle.rx_nfa.specs.Ranges.{StaysBelow}
use Rattle.rx_nfa.specs.Row.{transition_to}
use Rattle.rx_nfa.proofs.class.compile_bytes.Given as goal

abbrev pub invariant-loop-start : goal.invariant-loop-start
invariant-loop-start l = record {
  pushed : l.transitions.items ≡ map (transition_to l.next) (take l.start-index l.ranges);
  below : StaysBelow 255 (take l.start-index l.ranges);
}
