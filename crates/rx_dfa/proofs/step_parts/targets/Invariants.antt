use Rattle.std.proofs.Common.{◌≡◌, ◌++◌, drop}
use Rattle.rx_nfa.specs.Ordered.{targets}
use Rattle.rx_dfa.proofs.step_parts.targets.Given as goal

abbrev pub invariant-loop-state : goal.invariant-loop-state
invariant-loop-state l = record {
  gathered : l.into.items ++ targets l.states l.byte (drop l.state-index l.list) ≡ l.fn.into.items ++ targets l.states l.byte l.list;
}
