use Rattle.rx_onepass.specs.Dfa.{Fits}
use Rattle.rxcase.proofs.onepass.tell_each.Given as goal

abbrev pub invariant-haystacks : goal.invariant-haystacks
invariant-haystacks l = Fits l.dfa.nfa l.cache
