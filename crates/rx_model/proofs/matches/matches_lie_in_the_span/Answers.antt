use Rattle.rx_model.proofs.lemmas.matches.MatchLemmas.{next-within}
use Rattle.rx_model.proofs.matches.matches_lie_in_the_span.Goals as goal

pub returns : goal.returns
returns c = λ r text anchor b a m e. next-within r text anchor b a m e
