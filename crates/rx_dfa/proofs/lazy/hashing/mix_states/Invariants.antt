use Rattle.std.proofs.Common.{◌≡◌, drop}
use Rattle.rx_dfa.specs.Hash.{mixed_all}
use Rattle.rx_dfa.proofs.lazy.hashing.mix_states.Given as goal

abbrev pub invariant-loop-state : goal.invariant-loop-state
invariant-loop-state l = mixed_all l.all (drop l.state-index l.states) ≡ mixed_all l.hash l.states
