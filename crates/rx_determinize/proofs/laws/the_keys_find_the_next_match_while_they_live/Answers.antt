use Rattle.rx_determinize.proofs.lemmas.AliveLemmas.{alive-answer}
use Rattle.rx_determinize.proofs.laws.the_keys_find_the_next_match_while_they_live.Goals as goal

pub returns : goal.returns
returns c = λ nfa range sight text b within anchor a first le start begins sees. alive-answer nfa range sight text b within anchor a first le start begins sees
