use Rattle.std.proofs.Common.{◌≡◌, ◌<◌, ◌^◌, List, length, sym, ap, subst, ◌∙◌, arith}
use Rattle.rx_scan.specs.Counted.{rows_len}
use Rattle.rx_scan.specs.Row.{RowValue}
use Rattle.rx_scan.proofs.CountedLemmas.{counts-more}
use Rattle.rx_scan.proofs.counted.CountedOutcome.end.Goals as goal

pub returns : goal.returns
returns c = λ i all rows holds.
    let same = c.deref.ensures.value ∙ holds.1 in
    let Fit : List RowValue → Type 0 = λ rs. rows_len rs < 2 ^ 64 in
    let many : c.len.result ≡ length rows = omega (arith, c.len.ensures, c.args.tally.now.rows.ok.0, ap length holds.1) in (
      counts-more all rows _ c.args.tally.now.done.items c.push.new.self.items c.in_ok-push.ensures.items holds.0
          (λ fits k. record { matches = many k; covered = (c.covered_by.ensures (subst Fit (sym same) fits) ∙ ap rows_len same) k }),
      c.clear.ensures.items,
    )
