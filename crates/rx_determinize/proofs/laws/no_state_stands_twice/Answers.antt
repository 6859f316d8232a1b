use Rattle.rx_determinize.proofs.lemmas.OnceLemmas.{start-once, step-once}
use Rattle.rx_determinize.proofs.laws.no_state_stands_twice.Goals as goal

pub returns-clause-start : goal.returns-clause-start
returns-clause-start c = λ kind states start loops before. start-once kind states start loops before

pub returns-clause-step : goal.returns-clause-step
returns-clause-step c = λ kind states start sight k byte. step-once kind states start sight k byte
