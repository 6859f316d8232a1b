use Rattle.rx_hir.proofs.ClassLemmas.{of-bytes}
use Rattle.rx_hir.proofs.hir.properties.Properties.of_bytes.Goals as goal

pub returns : goal.returns
returns c = of-bytes c.args.ranges.now (0, 0) c.simple.result c.requires.some c.requires.fewest c.simple.ensures
