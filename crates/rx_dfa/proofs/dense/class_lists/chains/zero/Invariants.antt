use Rattle.std.proofs.Common.{◌≡◌, ◌<◌, ℕ}
use Rattle.std.specs.Prelude.{slice_index}
use Rattle.rx_dfa.proofs.dense.class_lists.chains.zero.Given as goal

abbrev pub invariant-loop-k : goal.invariant-loop-k
invariant-loop-k l = record {
  zeros : (n : ℕ) → n < l.k → slice_index l.numbers n ≡ 0;
}
