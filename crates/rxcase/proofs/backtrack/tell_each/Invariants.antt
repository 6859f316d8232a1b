use Rattle.rx_engines.specs.Bounded.{Fits}
use Rattle.rxcase.proofs.backtrack.tell_each.Given as goal

abbrev pub invariant-haystacks : goal.invariant-haystacks
invariant-haystacks l = Fits l.backtracker.nfa l.cache
