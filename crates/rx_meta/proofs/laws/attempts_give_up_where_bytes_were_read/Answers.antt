use Rattle.rx_meta.proofs.AttemptLemmas.{suffix-tells, inner-tells}
use Rattle.rx_meta.proofs.laws.attempts_give_up_where_bytes_were_read.Goals as goal

pub returns-clause-suffix : goal.returns-clause-suffix
returns-clause-suffix c = λ regex v cache error is. suffix-tells regex v cache error is

pub returns-clause-inner : goal.returns-clause-inner
returns-clause-inner c = λ regex v cache error is. inner-tells regex v cache error is
