use Rattle.rx_scan.proofs.CountedLemmas.{counts-put}
use Rattle.rx_scan.proofs.counted.CountedOutcome.put.Goals as goal

pub returns : goal.returns
returns c = λ all more are holds.
    counts-put all more c.args.whole.now.items c.append.new.self.items c.args.tally.done.items c.in_ok-append.ensures.items are holds.0
