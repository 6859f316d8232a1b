use Rattle.std.proofs.Common.{◌-◌, ◌≤◌}
use Rattle.rx_determinize.specs.Permitted.{Progress}
use Rattle.rx_determinize.specs.Sight.{AreBytes}
use Rattle.rx_dfa.proofs.lemmas.ForwardLemmas.{GoingAhead}
use Rattle.rx_dfa.proofs.lemmas.OverlapLemmas.{FillsTo}
use Rattle.rx_dfa.proofs.search.overlapping.add_along.Given as goal

abbrev pub invariant-bytes : goal.invariant-bytes
invariant-bytes g l = record {
  low : l.input.start ≤ l.at;
  high : l.at ≤ l.input.end;
  going : (met : Progress) × GoingAhead g.A.Automaton.holds l.dfa l.cache l.state (g.A.Automaton.dfa l.dfa) l.input l.at met;
  fills : FillsTo (g.A.Automaton.dfa l.dfa).nfa l.input l.at l.fn.set l.set;
  bytes : AreBytes l.input.haystack;
  fits : g.A.Automaton.fits l.dfa l.cache;
}

abbrev pub decreases-bytes : goal.decreases-bytes
decreases-bytes g l = l.input.end - l.at
