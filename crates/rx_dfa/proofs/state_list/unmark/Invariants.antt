use Rattle.rx_dfa.proofs.lemmas.ListLemmas.{AreUnmarked}
use Rattle.rx_dfa.proofs.state_list.unmark.Given as goal

abbrev pub invariant-loop-state : goal.invariant-loop-state
invariant-loop-state l = record {
  off : AreUnmarked l.items l.state-index l.fn.marks l.marks;
}
