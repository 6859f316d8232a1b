use Rattle.rxcase.proofs.both.tell_all.Given as goal

abbrev pub invariant-starts : goal.invariant-starts
invariant-starts g l = record {
  fits : g.A.Automaton.fits l.forward l.cache;
  second : g.A.Automaton.fits l.backward l.second;
}
