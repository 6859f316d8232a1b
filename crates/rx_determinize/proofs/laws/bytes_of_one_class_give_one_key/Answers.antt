use Rattle.rx_determinize.proofs.lemmas.SightLemmas.{class-steps}
use Rattle.rx_determinize.proofs.laws.bytes_of_one_class_give_one_key.Goals as goal

pub returns : goal.returns
returns c = λ nfa range keeps classes bytes are b d of reverse kind start k within ascii. class-steps nfa range keeps classes bytes are b d of reverse kind
    start k within ascii
