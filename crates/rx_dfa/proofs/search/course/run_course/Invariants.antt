use Rattle.std.proofs.Common.{◌≡◌, ◌-◌, ◌≤◌}
use Rattle.rx_determinize.specs.Permitted.{fresh}
use Rattle.rx_determinize.specs.Sight.{AreBytes}
use Rattle.rx_dfa.proofs.lemmas.BackLemmas.{Comes}
use Rattle.rx_dfa.proofs.lemmas.ForwardLemmas.{key_ahead, GoingAhead}
use Rattle.rx_dfa.proofs.search.course.run_course.Given as goal

abbrev pub invariant-bytes : goal.invariant-bytes
invariant-bytes g l = record {
  low : l.input.start ≤ l.at;
  high : l.at ≤ l.input.end;
  going : GoingAhead g.A.Automaton.holds l.dfa l.cache l.state (g.A.Automaton.dfa l.dfa) l.input l.at l.met;
  comes : l.met ≡ fresh → Comes (g.A.Automaton.dfa l.dfa) l.input l.at (key_ahead (g.A.Automaton.dfa l.dfa) l.input l.at);
  bytes : AreBytes l.input.haystack;
  fits : g.A.Automaton.fits l.dfa l.cache;
}

abbrev pub decreases-bytes : goal.decreases-bytes
decreases-bytes g l = l.input.end - l.at
