use Rattle.std.proofs.Common.{◌-◌, ◌≤◌}
use Rattle.rx_determinize.specs.Sight.{AreBytes}
use Rattle.rx_dfa.proofs.lemmas.BackwardLemmas.{GoingBehind}
use Rattle.rx_dfa.proofs.search.reverse.run_reverse.Given as goal

abbrev pub invariant-bytes : goal.invariant-bytes
invariant-bytes g l = record {
  low : l.input.start ≤ l.at;
  high : l.at ≤ l.input.end;
  going : GoingBehind g.A.Automaton.holds l.dfa l.cache l.state (g.A.Automaton.dfa l.dfa) l.input l.at l.met;
  bytes : AreBytes l.input.haystack;
  fits : g.A.Automaton.fits l.dfa l.cache;
}

abbrev pub decreases-bytes : goal.decreases-bytes
decreases-bytes g l = l.at - l.input.start
