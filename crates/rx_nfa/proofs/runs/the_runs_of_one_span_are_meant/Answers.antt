use Rattle.rx_nfa.proofs.lemmas.runs.SpanLemmas.{reached-means, means-reached}
use Rattle.rx_nfa.proofs.runs.the_runs_of_one_span_are_meant.Goals as goal

pub returns : goal.returns
returns c = λ nfa r runs text end p i j h within le is ordered. (
  reached-means nfa r runs text end p i j h within le is ordered,
  means-reached nfa r runs text end p i j h within le is ordered,
)
