use Rattle.std.proofs.Common.{◌+◌, ◌++◌, [], sym, ap, ◌∙◌}
use Rattle.rx_scan.proofs.TextLemmas.{rows_text-none}
use Rattle.rx_scan.proofs.outcome.RowsTextOutcome.open.Goals as goal

pub returns : goal.returns
returns c = λ i few. c.in_ok-text.ensures.items ∙ sym (ap (λ l. l ++ []) (rows_text-none (i + 1)))
