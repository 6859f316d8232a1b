use Rattle.rx_meta.proofs.FinderLemmas.{exact-next}
use Rattle.rx_meta.proofs.IteratorLemmas.{promises-each, answers-within, iterator-matches, iterator-silent, iterator-rises, iterator-within}
use Rattle.rx_meta.proofs.iterator_laws.an_iterator_gives_the_matches_of_its_patterns.Goals as goal

pub returns-clause-matches : goal.returns-clause-matches
returns-clause-matches c = λ regex r v within p. iterator-matches regex v within r p

pub returns-clause-silent : goal.returns-clause-silent
returns-clause-silent c = λ regex r v within premises untold. iterator-silent regex v within r premises untold

pub returns-clause-exact : goal.returns-clause-exact
returns-clause-exact c = λ regex r v p. exact-next regex r v p

pub returns-clause-promises : goal.returns-clause-promises
returns-clause-promises c = λ regex r v exact. promises-each regex v r exact

pub returns-clause-rising : goal.returns-clause-rising
returns-clause-rising c = λ regex r v within p. iterator-rises regex v within r p

pub returns-clause-within : goal.returns-clause-within
returns-clause-within c = λ regex r v within p. iterator-within regex v within r p

pub returns-clause-answers : goal.returns-clause-answers
returns-clause-answers c = λ regex v within each. answers-within regex v within each
