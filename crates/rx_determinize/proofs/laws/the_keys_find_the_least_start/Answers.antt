use Rattle.rx_determinize.proofs.lemmas.ReverseLemmas.{least-some, least-none}
use Rattle.rx_determinize.proofs.laws.the_keys_find_the_least_start.Goals as goal

pub returns-clause-some : goal.returns-clause-some
returns-clause-some c = λ nfa range r runs sight text b a le within anchor last sees h is. least-some nfa range r runs sight text b a le within anchor last sees
    h is

pub returns-clause-none : goal.returns-clause-none
returns-clause-none c = λ nfa range r runs sight text b a le within anchor last sees none pattern i low high m.
    least-none nfa range r runs sight text b a le within anchor last sees none pattern i low high m
