use Rattle.rx_model.proofs.lemmas.matches.WithinLemmas.{next-run, match-slots, match-own, match-others}
use Rattle.rx_model.proofs.matches.the_slots_of_the_whole_match_are_its_span.Goals as goal

pub returns-clause-next : goal.returns-clause-next
returns-clause-next c = λ r text anchor b a m e. match-slots r text anchor b a m (next-run r text anchor b a m e)

pub returns-clause-next_groups : goal.returns-clause-next_groups
returns-clause-next_groups c = λ r text anchor b a m e h there slot place is. match-own r text anchor b a m (next-run r text anchor b a m e) h there slot place
    is

pub returns-clause-next_others : goal.returns-clause-next_others
returns-clause-next_others c = λ r text anchor b a m e h there slot other. match-others r text anchor b a m (next-run r text anchor b a m e) h there slot other

pub returns-clause-each : goal.returns-clause-each
returns-clause-each c = λ r text anchor b a m x. match-slots r text anchor b a m x

pub returns-clause-each_groups : goal.returns-clause-each_groups
returns-clause-each_groups c = λ r text anchor b a m x h there slot place is. match-own r text anchor b a m x h there slot place is

pub returns-clause-each_others : goal.returns-clause-each_others
returns-clause-each_others c = λ r text anchor b a m x h there slot other. match-others r text anchor b a m x h there slot other
