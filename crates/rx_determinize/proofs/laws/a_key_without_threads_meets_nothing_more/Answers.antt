use Rattle.rx_determinize.proofs.lemmas.DeadLemmas.{no-thread, no-more}
use Rattle.rx_determinize.proofs.laws.a_key_without_threads_meets_nothing_more.Goals as goal

pub returns-clause-step : goal.returns-clause-step
returns-clause-step c = λ kind states start sight k none over byte. no-thread kind states start sight k none over byte

pub returns-clause-run : goal.returns-clause-run
returns-clause-run c = λ kind states start sight around size n i k none over best. no-more kind states start sight around size n i k none over best
