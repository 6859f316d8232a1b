use Rattle.std.proofs.Common.{sym, subst}
use Rattle.rx_class.specs.Ranges.{AreScalarRanges}
use Rattle.rx_hir.proofs.hir.set.scalar_of.Goals as goal

pub of_scalars-properties-requires-clause-fewest : goal.of_scalars-properties-requires-clause-fewest
of_scalars-properties-requires-clause-fewest c = subst AreScalarRanges (sym c.ranges-2.ensures.value) c.ranges-2.ensures.fewest
