use Rattle.rx_model.proofs.lemmas.graphs.SievedLemmas.{where-pattern, where-permitted, where-end, where-means, where-none}
use Rattle.rx_model.proofs.meaning.the_first_permitted_run_is_meant.Goals as goal

pub returns-clause-some : goal.returns-clause-some
returns-clause-some c = λ ok r text end p h ordered i t e. (
  where-pattern ok r text end p h i t e,
  where-permitted ok r text end p h i t e,
  where-end ok r text end p h i t e,
  where-means ok r text end p h i t e ordered,
)

pub returns-clause-none : goal.returns-clause-none
returns-clause-none c = λ ok r text end p h ordered i e j le may m. where-none ok r text end p h i ordered e j le may m
