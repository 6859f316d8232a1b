use Rattle.rx_nfa.proofs.lemmas.classes.ApartLemmas.{one-class-routes, one-class-looks}
use Rattle.rx_nfa.proofs.byte_classes.two_bytes_of_one_class_are_alike.Goals as goal

pub returns-clause-steps : goal.returns-clause-steps
returns-clause-steps c = λ nfa range b d q ts of is. one-class-routes nfa range b d q ts of is

pub returns-clause-looks : goal.returns-clause-looks
returns-clause-looks c = λ nfa range b d kind of there. one-class-looks nfa range b d kind of there
