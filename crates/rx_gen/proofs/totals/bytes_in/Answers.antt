use Rattle.std.proofs.Common.{arith}
use Rattle.std.specs.Vec.{vec_items}
use Rattle.rx_gen.proofs.TotalsLemmas.{lengths-more, lengths-below}
use Rattle.rx_gen.proofs.totals.bytes_in.Goals as goal

pub overflow_add-bytes : goal.overflow_add-bytes
overflow_add-bytes c =
    let more = lengths-below vec_items c.args.haystacks.now c.loop-haystack.haystack-index c.haystack-item.result c.loop-haystack-test.true c.haystack-item.is in
    omega (arith, more, c.loop-haystack.invariant, c.len-bytes.ensures, c.requires)

pub loop-haystack-preserved : goal.loop-haystack-preserved
loop-haystack-preserved c =
    let more = lengths-more vec_items c.args.haystacks.now c.loop-haystack.haystack-index c.haystack-item.result c.loop-haystack-test.true c.haystack-item.is in
    omega (arith, more, c.loop-haystack.invariant, c.len-bytes.ensures)
