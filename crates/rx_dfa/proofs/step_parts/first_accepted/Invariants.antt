use Rattle.std.proofs.Common.{◌≡◌, drop}
use Rattle.rx_nfa.specs.Ordered.{first_told}
use Rattle.rx_determinize.specs.Key.{accepts_in}
use Rattle.rx_dfa.proofs.step_parts.first_accepted.Given as goal

abbrev pub invariant-loop-state : goal.invariant-loop-state
invariant-loop-state l = record {
  rest : first_told (accepts_in l.states) (drop l.state-index l.list) ≡ first_told (accepts_in l.states) l.list;
}
