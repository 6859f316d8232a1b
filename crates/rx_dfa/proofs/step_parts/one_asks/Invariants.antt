use Rattle.std.proofs.Common.{◌≡◌, drop}
use Rattle.rx_determinize.specs.Key.{one_asks}
use Rattle.rx_dfa.proofs.step_parts.one_asks.Given as goal

abbrev pub invariant-loop-state : goal.invariant-loop-state
invariant-loop-state l = record {
  rest : one_asks l.states (drop l.state-index l.list) ≡ one_asks l.states l.list;
}
