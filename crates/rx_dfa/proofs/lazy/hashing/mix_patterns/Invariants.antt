use Rattle.std.proofs.Common.{◌≡◌, drop}
use Rattle.rx_dfa.specs.Hash.{mixed_all}
use Rattle.rx_dfa.proofs.lazy.hashing.mix_patterns.Given as goal

abbrev pub invariant-loop-pattern : goal.invariant-loop-pattern
invariant-loop-pattern l = mixed_all l.all (drop l.pattern-index l.patterns) ≡ mixed_all l.hash l.patterns
