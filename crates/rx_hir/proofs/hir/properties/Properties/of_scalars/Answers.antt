use Rattle.rx_hir.proofs.ClassLemmas.{of-scalars}
use Rattle.rx_hir.proofs.hir.properties.Properties.of_scalars.Goals as goal

pub returns : goal.returns
returns c = of-scalars c.args.ranges.now (0, 0) c.simple.result c.len_utf8.result c.len_utf8-2.result c.requires.some c.requires.fewest c.len_utf8.ensures.value
    c.len_utf8-2.ensures.value c.simple.ensures
