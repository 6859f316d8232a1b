use Rattle.rx_nfa.proofs.lemmas.lists.TargetLemmas.{step-first, end-first}
use Rattle.rx_nfa.proofs.lists.a_step_keeps_the_first_success.Goals as goal

pub returns-clause-byte : goal.returns-clause-byte
returns-clause-byte c = λ around states end g has_steps i lt qs. step-first around states end g has_steps i lt qs

pub returns-clause-end : goal.returns-clause-end
returns-clause-end c = λ around states end g has_steps qs. end-first around states end g has_steps qs
