use Rattle.rx_determinize.proofs.lemmas.SightLemmas.{sees-forwards, sees-backwards}
use Rattle.rx_determinize.proofs.laws.the_sight_by_classes_tells_of_look_around.Goals as goal

pub returns-clause-forwards : goal.returns-clause-forwards
returns-clause-forwards c = λ nfa range keeps classes bytes are text small b a le within told. sees-forwards nfa range keeps classes bytes are text small b a le
    within told

pub returns-clause-backwards : goal.returns-clause-backwards
returns-clause-backwards c = λ nfa range keeps classes bytes are text small b a le within told. sees-backwards nfa range keeps classes bytes are text small b a
    le within told
