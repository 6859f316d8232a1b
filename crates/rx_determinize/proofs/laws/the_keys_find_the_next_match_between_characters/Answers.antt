use Rattle.rx_determinize.proofs.lemmas.PermittedLemmas.{permitted-answer}
use Rattle.rx_determinize.proofs.laws.the_keys_find_the_next_match_between_characters.Goals as goal

pub returns : goal.returns
returns c = λ nfa range sight text b within anchor a first le sees keeps. permitted-answer nfa range sight text b within anchor a first le sees keeps
