use Rattle.std.proofs.Common.{sym, ◌∙◌, arith}
use Rattle.rx_order.proofs.lemmas.PlaceLemmas.{still-more, zero-from}
use Rattle.rx_order.proofs.separator.first_consuming.Goals as goal

pub loop-i-preserved : goal.loop-i-preserved
loop-i-preserved c =
    let zero = zero-from _ (sym c.is_consuming.ensures ∙ c.if-is_consuming.false) in
    record {
      within = omega arith;
      still = still-more c.args.parts.now c.loop-i.i c.index-parts-i.result c.loop-i-test.true c.index-parts-i.is zero c.loop-i.invariant.still;
    }
