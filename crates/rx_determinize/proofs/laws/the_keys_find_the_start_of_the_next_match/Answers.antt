use Rattle.rx_determinize.proofs.lemmas.StartLemmas.{start-found}
use Rattle.rx_determinize.proofs.laws.the_keys_find_the_start_of_the_next_match.Goals as goal

pub returns : goal.returns
returns c = λ nfa range r runs sight text utf8 b a within m next last sees. start-found nfa range r runs sight text utf8 b a within m next last sees
