use Rattle.rx_nfa.proofs.lemmas.lists.ClosureLemmas.{threads-first}
use Rattle.rx_nfa.proofs.lists.the_closure_keeps_the_first_success.Goals as goal

pub returns : goal.returns
returns c = λ around states names end g has_steps holding i place holds qs below. threads-first around states end g has_steps names holding i place holds qs
    below
