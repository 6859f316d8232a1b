use Rattle.std.proofs.Common.{◌≡◌, ◌+◌, ◌-◌, ◌<◌, length, sym, ◌∙◌, arith}
use Rattle.rx_order.proofs.lemmas.LoopLemmas.{some-from}
use Rattle.rx_order.proofs.lemmas.PlaceLemmas.{still-back, part-is, zero-from}
use Rattle.rx_order.proofs.separator.last_consuming.Goals as goal

pub returns-then-is_consuming : goal.returns-then-is_consuming
returns-then-is_consuming c =
    let i = c.loop-i.i in
    let parts = c.args.parts.now in
    let h = c.index-parts-i.result in
    let some = c.loop-i-test.true in
    let within = c.loop-i.invariant.within in
    let low : i - 1 < length parts = omega (arith, some, within) in
    let same : i - 1 + 1 ≡ i = omega (arith, some) in
    let consumes = some-from _ (sym c.is_consuming.ensures ∙ c.if-is_consuming.true) in
    ((low, rw (part-is parts (i - 1) h low c.index-parts-i.is) consumes), rw same c.loop-i.invariant.still)

pub loop-i-preserved : goal.loop-i-preserved
loop-i-preserved c =
    let i = c.loop-i.i in
    let parts = c.args.parts.now in
    let some = c.loop-i-test.true in
    let within = c.loop-i.invariant.within in
    let low : i - 1 < length parts = omega (arith, some, within) in
    let same : i - 1 + 1 ≡ i = omega (arith, some) in
    let still = zero-from _ (sym c.is_consuming.ensures ∙ c.if-is_consuming.false) in
    record {
      within = omega (arith, low);
      still = still-back parts (i - 1) c.index-parts-i.result low c.index-parts-i.is still (rw same c.loop-i.invariant.still);
    }
