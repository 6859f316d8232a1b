use Rattle.rx_model.proofs.lemmas.matches.MatchLemmas.{next-is, next-none, is-next}
use Rattle.rx_model.proofs.matches.the_search_finds_the_next_match.Goals as goal

pub returns-clause-found : goal.returns-clause-found
returns-clause-found c = λ r text anchor b a m e. next-is r text anchor b a m e

pub returns-clause-only : goal.returns-clause-only
returns-clause-only c = λ r text anchor b a m is. is-next r text anchor b a m is

pub returns-clause-none : goal.returns-clause-none
returns-clause-none c = λ r text anchor b a e place p t may has. next-none r text anchor b a e place p t may has
