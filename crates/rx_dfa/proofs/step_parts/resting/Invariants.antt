use Rattle.std.proofs.Common.{◌≡◌, ◌++◌, drop}
use Rattle.rx_nfa.specs.Ordered.{resting}
use Rattle.rx_dfa.proofs.step_parts.resting.Given as goal

abbrev pub invariant-loop-state : goal.invariant-loop-state
invariant-loop-state l = record {
  gathered : l.into.items ++ resting l.states (drop l.state-index l.list) ≡ l.fn.into.items ++ resting l.states l.list;
}
