use Rattle.rx_nfa.proofs.lemmas.runs.StepLemmas.{successors-alike, accepted-alike}
use Rattle.rx_nfa.proofs.runs.a_step_depends_on_the_byte_and_the_look_arounds.Goals as goal

pub returns-clause-leads : goal.returns-clause-leads
returns-clause-leads c = λ here there states end last q i j le le' byte looks. successors-alike here there end last i j byte states q le le' looks

pub returns-clause-accepts : goal.returns-clause-accepts
returns-clause-accepts c = λ here there states end last q i j le le'. accepted-alike here there states end last q i j le le'
