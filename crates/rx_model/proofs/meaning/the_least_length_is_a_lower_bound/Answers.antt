use Rattle.rx_model.proofs.lemmas.meaning.LengthLemmas.{means-long}
use Rattle.rx_model.proofs.meaning.the_least_length_is_a_lower_bound.Goals as goal

pub returns : goal.returns
returns c = λ t text h n e i j m. means-long t text h n e i j m
