use Rattle.rx_search.specs.Sets.{KeepsMembers}
use Rattle.rx_determinize.specs.Key.{Key}
use Rattle.rx_dfa.proofs.lemmas.SetLemmas.{AddsFirst}
use Rattle.rx_dfa.proofs.search.overlapping.add_told.Given as goal

abbrev pub invariant-loop-index : goal.invariant-loop-index
invariant-loop-index g l = record {
  kept : KeepsMembers l.fn.set l.set;
  adds : (key : Key) → g.A.Automaton.holds l.dfa l.cache l.state key → AddsFirst key.matches l.index l.fn.set l.set;
}
