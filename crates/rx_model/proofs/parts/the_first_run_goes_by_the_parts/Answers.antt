use Rattle.rx_model.proofs.lemmas.runs.PlainLemmas.{first-plain}
use Rattle.rx_model.proofs.parts.the_first_run_goes_by_the_parts.Goals as goal

pub returns : goal.returns
returns c = λ r text end p h plain i. first-plain r text end p h plain i
