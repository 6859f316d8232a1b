use Rattle.rx_class.proofs.ByteLemmas.{AreByteRanges-complement, byte_complement-members}
use Rattle.rx_class.proofs.ScalarLemmas.{AreScalarRanges-complement, complement-members}
use Rattle.rx_class.proofs.laws.complement_holds_the_rest.Goals as goal

pub returns : goal.returns
returns c = record {
  scalars = complement-members;
  scalar_ranges = AreScalarRanges-complement;
  bytes = byte_complement-members;
  byte_ranges = AreByteRanges-complement;
}
