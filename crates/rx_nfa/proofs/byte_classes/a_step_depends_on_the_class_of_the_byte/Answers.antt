use Rattle.rx_nfa.proofs.lemmas.classes.ApartLemmas.{class-steps}
use Rattle.rx_nfa.proofs.byte_classes.a_step_depends_on_the_class_of_the_byte.Goals as goal

pub returns : goal.returns
returns c = λ nfa range here there end last q i j lt lt' of looks. class-steps nfa range here there end last q i j lt lt' of looks
