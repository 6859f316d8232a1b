use Rattle.std.proofs.Common.{◌≡◌, drop}
use Rattle.rx_nfa.specs.Automaton.{route}
use Rattle.rx_nfa.proofs.sparse.matches_byte.Given as goal

abbrev pub invariant-loop-transition : goal.invariant-loop-transition
invariant-loop-transition l = route l.transitions l.byte ≡ route (drop l.transition-index l.transitions) l.byte
