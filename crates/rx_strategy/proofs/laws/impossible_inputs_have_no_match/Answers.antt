use Rattle.rx_strategy.proofs.ImpossibleLemmas.{no-next}
use Rattle.rx_strategy.proofs.laws.impossible_inputs_have_no_match.Goals as goal

pub returns : goal.returns
returns c = λ r v ordered within e. no-next r v ordered within e
