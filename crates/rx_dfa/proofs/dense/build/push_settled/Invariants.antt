use Rattle.std.proofs.Common.{◌≡◌, ◌++◌, map, drop}
use Rattle.rx_dfa.specs.Numbers.{settled}
use Rattle.rx_dfa.proofs.dense.build.push_settled.Given as goal

abbrev pub invariant-loop-state : goal.invariant-loop-state
invariant-loop-state l = record {
  gathered : l.into.items ++ map (settled l.first) (drop l.state-index l.states) ≡ l.fn.into.items ++ map (settled l.first) l.states;
}
