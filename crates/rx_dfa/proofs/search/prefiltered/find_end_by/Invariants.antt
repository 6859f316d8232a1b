use Rattle.std.proofs.Common.{◌≡◌, ◌+◌, ◌-◌}
use Rattle.rx_search.specs.Input.{from_place}
use Rattle.rx_dfa.specs.Candidates.{StandsBy}
use Rattle.rx_dfa.proofs.search.prefiltered.find_end_by.Given as goal

abbrev pub invariant-starts : goal.invariant-starts
invariant-starts g l = record {
  rest : l.rest ≡ from_place l.rest.start l.input;
  stands : StandsBy (g.A.Automaton.dfa l.dfa) l.pre l.input l.rest.start;
  fits : g.A.Automaton.fits l.dfa l.cache;
}

abbrev pub decreases-starts : goal.decreases-starts
decreases-starts g l = l.rest.end + 1 - l.rest.start
