use Rattle.rx_determinize.proofs.lemmas.ArrivedLemmas.{arrived-first}
use Rattle.rx_determinize.proofs.laws.what_has_arrived_keeps_the_first_success.Goals as goal

pub returns : goal.returns
returns c = λ around states names end g has_steps i le qs below. arrived-first around states names end g has_steps i le qs below
