use Rattle.rx_onepass.proofs.lemmas.NextLemmas.{run-next}
use Rattle.rx_onepass.proofs.laws.the_run_is_that_of_the_next_match.Goals as goal

pub returns : goal.returns
returns c = λ d v first. run-next d v first
