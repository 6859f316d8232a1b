use Rattle.rx_model.proofs.lemmas.matches.NarrowLemmas.{where-nearer, patterns-nearer, next-narrowed}
use Rattle.rx_model.proofs.matches.a_first_run_is_the_first_within_an_earlier_end.Goals as goal

pub returns-clause-pattern : goal.returns-clause-pattern
returns-clause-pattern c = λ ok r text end later p h i t le is low. where-nearer ok r text end later le p h i t is low

pub returns-clause-patterns : goal.returns-clause-patterns
returns-clause-patterns c = λ ok r text end later i t le is low. patterns-nearer ok r text end later le 0 r.expressions i t is low

pub returns-clause-next : goal.returns-clause-next
returns-clause-next c = λ r text anchor b a m e. next-narrowed r text anchor b a m e
