use Rattle.rx_model.proofs.lemmas.runs.LeastLemmas.{first-some, first-only, first-no_run, where-some, where-only, where-no_run}
use Rattle.rx_model.proofs.runs.the_first_run_of_a_pattern_is_least.Goals as goal

pub returns-clause-some : goal.returns-clause-some
returns-clause-some c = λ r text end p h i t e. first-some r text end p h i t e

pub returns-clause-only : goal.returns-clause-only
returns-clause-only c = λ r text end p h i run is. first-only r text end p h i run is

pub returns-clause-none : goal.returns-clause-none
returns-clause-none c = λ r text end p h i e run is. first-no_run r text end p h i e run is

pub returns-clause-some_where : goal.returns-clause-some_where
returns-clause-some_where c = λ ok r text end p h i t e. where-some r text end p h i ok t e

pub returns-clause-only_where : goal.returns-clause-only_where
returns-clause-only_where c = λ ok r text end p h i run is. where-only r text end p h i ok run is

pub returns-clause-none_where : goal.returns-clause-none_where
returns-clause-none_where c = λ ok r text end p h i e run is. where-no_run r text end p h i ok e run is
