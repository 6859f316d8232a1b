use Rattle.rxcase.proofs.both.tell_lines.Given as goal

abbrev pub invariant-lines : goal.invariant-lines
invariant-lines g l = record {
  fits : g.A.Automaton.fits l.forward l.cache;
  second : g.A.Automaton.fits l.backward l.second;
}
