use Rattle.rx_model.proofs.lemmas.matches.WithinLemmas.{match-next, match-earliest, match-within, match-means}
use Rattle.rx_model.proofs.matches.a_match_is_meant_and_a_next_match_is_there.Goals as goal

pub returns-clause-next : goal.returns-clause-next
returns-clause-next c = λ r text anchor b a m is. match-next r text anchor b a m is

pub returns-clause-earliest : goal.returns-clause-earliest
returns-clause-earliest c = λ r text anchor b a m n is e. match-earliest r text anchor b a m is n e

pub returns-clause-within : goal.returns-clause-within
returns-clause-within c = λ r text anchor b a m is. match-within r text anchor b a m is

pub returns-clause-meant : goal.returns-clause-meant
returns-clause-meant c = λ r text anchor b a m is h there ordered. match-means r text anchor b a m is h there ordered
