use Rattle.rx_engines.specs.Engine.{Fits}
use Rattle.rxcase.proofs.pikevm.tell_each.Given as goal

abbrev pub invariant-haystacks : goal.invariant-haystacks
invariant-haystacks l = Fits l.vm l.cache
