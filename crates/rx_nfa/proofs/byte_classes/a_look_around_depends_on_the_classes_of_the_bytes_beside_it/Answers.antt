use Rattle.rx_nfa.proofs.lemmas.classes.ApartLemmas.{beside-classes}
use Rattle.rx_nfa.proofs.byte_classes.a_look_around_depends_on_the_classes_of_the_bytes_beside_it.Goals as goal

pub returns : goal.returns
returns c = λ nfa range here there kind i j within within' asked before after told. beside-classes nfa range here there kind i j within within' asked before
    after told
