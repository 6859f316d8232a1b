use Rattle.std.specs.Vec.{vec_items}
use Rattle.rx_scan.proofs.OutcomeLemmas.{rows-put}
use Rattle.rx_scan.proofs.outcome.AllRowsOutcome.put.Goals as goal

pub returns : goal.returns
returns c = λ all more are holds.
    rows-put vec_items all more c.args.whole.now.items c.append.new.self.items c.args.kept.done.items c.in_ok-append.ensures.items are holds.0
