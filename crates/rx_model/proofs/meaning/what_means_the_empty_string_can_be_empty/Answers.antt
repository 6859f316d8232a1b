use Rattle.rx_model.proofs.lemmas.meaning.EmptyLemmas.{means-empty}
use Rattle.rx_model.proofs.meaning.what_means_the_empty_string_can_be_empty.Goals as goal

pub returns : goal.returns
returns c = λ t text h i m. means-empty t text h i m
