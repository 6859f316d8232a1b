use Rattle.rx_nfa.specs.Automaton.{forwards}
use Rattle.rx_nfa.proofs.lemmas.runs.StepLemmas.{target-reached}
use Rattle.rx_nfa.proofs.runs.a_byte_leads_to_its_target.Goals as goal

pub returns-clause-over : goal.returns-clause-over
returns-clause-over c = λ around states end q i ts is. target-reached around states end q i ts is

pub returns-clause-forwards : goal.returns-clause-forwards
returns-clause-forwards c = λ terminator states text end q i ts is. target-reached (forwards terminator text) states end q i ts is
