use Rattle.rx_determinize.proofs.lemmas.KeepsLemmas.{walks-keep}
use Rattle.rx_determinize.proofs.laws.patterns_that_mean_utf8_keep_characters.Goals as goal

pub returns : goal.returns
returns c = λ nfa r runs text utf8 end within anchor q is. walks-keep nfa r runs text utf8 end within anchor q is
