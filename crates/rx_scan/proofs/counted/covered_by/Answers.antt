use Rattle.std.proofs.Common.{◌≡◌, ap, ◌∙◌, arith}
use Rattle.rx_gen.proofs.TotalsLemmas.{sum-more, sum-below}
use Rattle.rx_scan.specs.Counted.{slots_len, row_len}
use Rattle.rx_scan.proofs.counted.covered_by.Goals as goal

pub loop-row-preserved : goal.loop-row-preserved
loop-row-preserved c = λ fits.
    let more = sum-more row_len c.args.rows.now c.loop-row.row-index c.row-item.result c.loop-row-test.true c.row-item.is in
    let below = sum-below row_len c.args.rows.now c.loop-row.row-index c.row-item.result c.loop-row-test.true c.row-item.is in
    let len : c.slots_len.result ≡ row_len c.row-item.result = c.slots_len.ensures ∙ ap slots_len c.as_slice.ensures ∙ ap row_len c.row.view_is in
    omega (arith, more, below, fits, c.loop-row.invariant fits, len, c.saturating_add-covered.ensures)
