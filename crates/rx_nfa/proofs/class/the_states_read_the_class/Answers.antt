use Rattle.rx_nfa.proofs.lemmas.runs.RefinedLemmas.{IsClass-reads, IsByteClass-reads}
use Rattle.rx_nfa.proofs.class.the_states_read_the_class.Goals as goal

pub returns-clause-scalars : goal.returns-clause-scalars
returns-clause-scalars c = λ ok terminator states text end base next q ranges inside k. IsClass-reads ok terminator states text end base next q ranges inside k

pub returns-clause-bytes : goal.returns-clause-bytes
returns-clause-bytes c = λ ok terminator states text end base next q ranges inside below k. IsByteClass-reads ok terminator states text end base next q ranges
    inside below k
