use Rattle.std.proofs.Common.{◌≡◌, drop}
use Rattle.std.specs.List.{list_any}
use Rattle.rx_nfa.specs.Directed.{is_range}
use Rattle.rx_nfa.proofs.backwards.has_range.Given as goal

abbrev pub invariant-loop-other : goal.invariant-loop-other
invariant-loop-other l = list_any (is_range l.range) l.ranges ≡ list_any (is_range l.range) (drop l.other-index l.ranges)
