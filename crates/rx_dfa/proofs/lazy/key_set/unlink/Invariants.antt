use Rattle.rx_dfa.proofs.lemmas.ChainLemmas.{AreEmptied}
use Rattle.rx_dfa.proofs.lazy.key_set.unlink.Given as goal

abbrev pub invariant-loop-bucket : goal.invariant-loop-bucket
invariant-loop-bucket l = record {
  off : AreEmptied l.buckets l.bucket-index l.fn.heads l.heads;
}
