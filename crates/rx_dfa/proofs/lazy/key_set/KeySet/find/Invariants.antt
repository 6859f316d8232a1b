use Rattle.std.proofs.Common.{length}
use Rattle.rx_dfa.specs.Hash.{bucket_of}
use Rattle.rx_dfa.specs.StateKey.{key_of}
use Rattle.rx_dfa.proofs.lemmas.ChainLemmas.{Seeks}
use Rattle.rx_dfa.proofs.lazy.key_set.KeySet.find.Given as goal

abbrev pub invariant-loop-limit : goal.invariant-loop-limit
invariant-loop-limit l =
    Seeks l.self-inside.keys l.self-inside.buckets.items (bucket_of (length l.self-inside.heads.items) (key_of l.key)) (key_of l.key) l.limit

abbrev pub decreases-loop-limit : goal.decreases-loop-limit
decreases-loop-limit l = l.limit
