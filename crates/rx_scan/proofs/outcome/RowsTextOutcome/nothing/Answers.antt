use Rattle.std.proofs.Common.{sym, ap, ◌∙◌}
use Rattle.std.specs.List.{flat_map}
use Rattle.std.specs.Vec.{vec_items}
use Rattle.rx_scan.proofs.TextLemmas.{rows_text-none}
use Rattle.rx_scan.proofs.outcome.RowsTextOutcome.nothing.Goals as goal

pub returns : goal.returns
returns c = λ few. ap (flat_map vec_items) c.new.ensures.items ∙ sym (rows_text-none 1)
