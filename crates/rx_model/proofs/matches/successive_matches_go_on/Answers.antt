use Rattle.rx_model.proofs.lemmas.matches.SuccessionLemmas.{matches-successive, matches-enough, matches-rise, matches-within}
use Rattle.rx_model.proofs.matches.successive_matches_go_on.Goals as goal

pub returns-clause-successive : goal.returns-clause-successive
returns-clause-successive c = λ r text anchor b a. matches-successive r text anchor b a

pub returns-clause-unbounded : goal.returns-clause-unbounded
returns-clause-unbounded c = λ r text anchor b a n le. matches-enough r text anchor b a n le

pub returns-clause-rising : goal.returns-clause-rising
returns-clause-rising c = λ r text anchor b a. matches-rise r text anchor b a

pub returns-clause-within : goal.returns-clause-within
returns-clause-within c = λ r text anchor b a. matches-within r text anchor b a
