use Rattle.std.proofs.Common.{ap}
use Rattle.std.specs.Prelude.{map}
use Rattle.std.specs.Vec.{vec_items}
use Rattle.rx_scan.proofs.outcome.AllRowsOutcome.open.Goals as goal

pub returns : goal.returns
returns c = λ i. (ap (map vec_items) c.new.ensures.items, c.new-2.ensures.items)
