use Rattle.rx_onepass.proofs.lemmas.AnchorLemmas.{same-next}
use Rattle.rx_onepass.proofs.laws.a_search_that_is_always_anchored_is_an_anchored_one.Goals as goal

pub returns : goal.returns
returns c = λ config hs nfa compiled once utf8_empty text b a. same-next config hs nfa compiled once utf8_empty text b a
