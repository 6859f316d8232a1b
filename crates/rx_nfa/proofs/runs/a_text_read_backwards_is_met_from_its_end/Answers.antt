use Rattle.rx_nfa.proofs.lemmas.runs.StepLemmas.{byte-read-backwards}
use Rattle.rx_nfa.proofs.runs.a_text_read_backwards_is_met_from_its_end.Goals as goal

pub returns-clause-byte : goal.returns-clause-byte
returns-clause-byte c = λ terminator text place inside. byte-read-backwards text place inside
