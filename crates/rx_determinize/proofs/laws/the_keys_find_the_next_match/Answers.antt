use Rattle.rx_determinize.proofs.lemmas.SpanLemmas.{keys-answer}
use Rattle.rx_determinize.proofs.laws.the_keys_find_the_next_match.Goals as goal

pub returns : goal.returns
returns c = λ nfa range sight text b within anchor a first le sees. keys-answer nfa range sight text b within anchor a first le sees
