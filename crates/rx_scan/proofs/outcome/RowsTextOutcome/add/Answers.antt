use Rattle.std.proofs.Common.{◌≡◌, ◌+◌, ◌<◌, ◌^◌, arith}
use Rattle.rx_scan.proofs.OutcomeLemmas.{on-ok}
use Rattle.rx_scan.proofs.TextLemmas.{text-row}
use Rattle.rx_scan.proofs.outcome.RowsTextOutcome.add.Goals as goal

pub returns : goal.returns
returns c = λ i all rows at told.
    let line : c.args.index < 2 ^ 63 → c.saturating_add.result ≡ c.args.index + 1 = λ small. omega (arith, small, c.saturating_add.ensures) in
    on-ok c.print_row.result
    (λ longer few. text-row i c.args.index c.saturating_add.result all rows c.args.row c.args.text.now.items c.print_row.new.text.items at line longer told few)
    c.print_row.ensures
