use Rattle.rx_order.proofs.lemmas.StripLemmas.{strip-then}
use Rattle.rx_order.proofs.laws.what_is_left_stands_before_the_suffix.Goals as goal

pub returns : goal.returns
returns c = λ h x s ordered e. strip-then h x s ordered e
