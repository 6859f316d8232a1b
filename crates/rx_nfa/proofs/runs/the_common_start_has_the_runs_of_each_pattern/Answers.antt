use Rattle.rx_nfa.proofs.lemmas.runs.SpanLemmas.{common-start}
use Rattle.rx_nfa.proofs.runs.the_common_start_has_the_runs_of_each_pattern.Goals as goal

pub returns : goal.returns
returns c = λ nfa r runs text end p i h within is may. common-start nfa r runs text end p i h within is may
