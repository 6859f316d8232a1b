use Rattle.rx_nfa.proofs.lemmas.runs.PatternLemmas.{HasRuns-first}
use Rattle.rx_nfa.proofs.runs.what_has_the_runs_has_the_first_runs.Goals as goal

pub returns : goal.returns
returns c = λ nfa r runs. HasRuns-first nfa r runs
