use Rattle.std.proofs.Common.{◌≡◌, ◌++◌, drop, take}
use Rattle.rx_nfa.specs.Ordered.{cut}
use Rattle.rx_determinize.specs.Key.{accepts_in}
use Rattle.rx_dfa.proofs.step_parts.cut_len.Given as goal

abbrev pub invariant-loop-k : goal.invariant-loop-k
invariant-loop-k l = record {
  rest : take l.k l.list ++ cut (accepts_in l.states) (drop l.k l.list) ≡ cut (accepts_in l.states) l.list;
}
