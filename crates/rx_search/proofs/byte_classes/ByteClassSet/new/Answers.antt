use Rattle.rx_search.proofs.ByteClassLemmas.{unmarked}
use Rattle.rx_search.proofs.byte_classes.ByteClassSet.new.Goals as goal

pub returns : goal.returns
returns c = λ b. unmarked 256 b
