use Rattle.std.proofs.Common.{sym, subst}
use Rattle.rx_class.specs.Ranges.{AreByteRanges}
use Rattle.rx_hir.proofs.hir.set.byte_of.Goals as goal

pub of_bytes-properties-requires-clause-fewest : goal.of_bytes-properties-requires-clause-fewest
of_bytes-properties-requires-clause-fewest c = subst AreByteRanges (sym c.ranges-2.ensures.value) c.ranges-2.ensures.fewest
