use Rattle.rx_scan.proofs.TextLemmas.{text-end}
use Rattle.rx_scan.proofs.outcome.RowsTextOutcome.end.Goals as goal

pub returns : goal.returns
returns c = λ i all rows told few. text-end i all rows c.args._text.now.items told few
