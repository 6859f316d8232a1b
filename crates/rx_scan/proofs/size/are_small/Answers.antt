use Rattle.rx_scan.proofs.SizeLemmas.{small-weights}
use Rattle.rx_scan.proofs.size.are_small.Goals as goal

pub returns : goal.returns
returns c = λ hs is counted. small-weights hs c.args.weights c.args.count c.fit.result is counted c.fit.ensures
