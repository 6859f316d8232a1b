use Rattle.rx_class.proofs.ByteLemmas.{AreByteRanges-folded, byte_folded-members}
use Rattle.rx_class.proofs.FoldLemmas.{AreScalarRanges-folded, folded-orbits}
use Rattle.rx_class.proofs.laws.folding_holds_the_orbits.Goals as goal

pub returns : goal.returns
returns c = record {
  scalars = folded-orbits;
  scalar_ranges = AreScalarRanges-folded;
  bytes = byte_folded-members;
  byte_ranges = AreByteRanges-folded;
}
