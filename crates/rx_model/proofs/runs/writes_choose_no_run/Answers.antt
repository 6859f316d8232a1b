use Rattle.rx_model.proofs.lemmas.runs.WriteLemmas.{found-alike}
use Rattle.rx_model.proofs.runs.writes_choose_no_run.Goals as goal

pub returns : goal.returns
returns c = λ g m agrees passed x. found-alike g m agrees passed x
