use Rattle.std.proofs.Common.{◌<◌, length}
use Rattle.rx_engines.proofs.lemmas.threads.VainLemmas.{EndsAt}
use Rattle.rx_engines.proofs.pikevm.seed.is_vain.Given as goal

abbrev pub invariant-loop : goal.invariant-loop
invariant-loop l = record {
  state : l.state < length l.states;
  ends : EndsAt l.states l.fn.from l.state;
}
