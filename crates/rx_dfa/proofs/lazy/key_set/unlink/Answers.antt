use Rattle.std.proofs.Common.{◌<◌, length, get_or, refl, arith}
use Rattle.rx_dfa.proofs.lemmas.ChainLemmas.{emptied-more}
use Rattle.rx_dfa.proofs.lazy.key_set.unlink.Goals as goal

pub loop-bucket-preserved : goal.loop-bucket-preserved
loop-bucket-preserved c =
    let items = c.args.buckets.now in
    let i = c.loop-bucket.bucket-index in
    let lt = c.loop-bucket-test.true in
    let low = c.requires i 0 lt in
    let same = c.loop-bucket.auto.heads in
    let below : get_or items i 0 < length c.loop-bucket.heads = omega arith in
    record { off = emptied-more items i (get_or items i 0) c.args.heads.now c.loop-bucket.heads lt refl below c.loop-bucket.invariant.off }
