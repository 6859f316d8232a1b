use Rattle.std.proofs.Common.{ap}
use Rattle.rx_model.specs.Runs.{first_trace}
use Rattle.rx_model.proofs.lemmas.graphs.SieveLemmas.{sieved-everywhere, first-everywhere, first_of_patterns-everywhere}
use Rattle.rx_model.proofs.runs.the_sieve_that_lets_all_through_changes_no_run.Goals as goal

pub returns-clause-graph : goal.returns-clause-graph
returns-clause-graph c = λ g d. ap (λ x. first_trace x d) (sieved-everywhere g)

pub returns-clause-pattern : goal.returns-clause-pattern
returns-clause-pattern c = λ r text end p h i. first-everywhere r text end p h i

pub returns-clause-patterns : goal.returns-clause-patterns
returns-clause-patterns c = λ r text end p hs i. first_of_patterns-everywhere r text end p hs i
