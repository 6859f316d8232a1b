use Rattle.rx_order.proofs.lemmas.Yes.{suffix-passes}
use Rattle.rx_order.proofs.laws.a_suffix_that_passes_has_no_earlier_match.Goals as goal

pub returns : goal.returns
returns c = λ h s ordered e. suffix-passes h s ordered e
