use Rattle.std.proofs.Common.{◌≡◌, ◌+◌, ◌-◌, ◌≤◌}
use Rattle.rx_determinize.specs.Sight.{AreBytes}
use Rattle.rx_limited.proofs.lemmas.AheadLemmas.{GoesAhead}
use Rattle.rx_limited.proofs.stopat.go_ahead.Given as goal

abbrev pub invariant-bytes : goal.invariant-bytes
invariant-bytes g l = record {
  low : l.input.start ≤ l.at;
  high : l.at ≤ l.input.end;
  going : GoesAhead (g.A.Automaton.holds l.dfa l.cache) (g.A.Automaton.dfa l.dfa) l.input l.at l.state l.best;
  steps : l.steps ≡ l.fn.steps + (l.at - l.input.start);
  bytes : AreBytes l.input.haystack;
  fits : g.A.Automaton.fits l.dfa l.cache;
}

abbrev pub decreases-bytes : goal.decreases-bytes
decreases-bytes g l = l.input.end - l.at
