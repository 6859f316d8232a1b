use Rattle.rx_model.proofs.lemmas.graphs.GraphLemmas.{first-pattern, first-end, first-means, first-none}
use Rattle.rx_model.proofs.meaning.the_first_run_is_meant.Goals as goal

pub returns-clause-some : goal.returns-clause-some
returns-clause-some c = λ r text end p h ordered i t e.
    (first-pattern r text end p h i t e, (first-end r text end p h i t e).1, first-means r text end p h ordered i t e)

pub returns-clause-none : goal.returns-clause-none
returns-clause-none c = λ r text end p h ordered i e j le m. first-none r text end p h ordered i e j le m
