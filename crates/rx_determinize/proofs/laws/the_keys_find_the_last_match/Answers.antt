use Rattle.rx_determinize.proofs.lemmas.ToldLemmas.{all-last-some, all-last-none}
use Rattle.rx_determinize.proofs.laws.the_keys_find_the_last_match.Goals as goal

pub returns-clause-some : goal.returns-clause-some
returns-clause-some c = λ around size states names start inside sight b a le short first sees loops h is.
    all-last-some around size states names start inside sight b a le short first sees loops h is

pub returns-clause-none : goal.returns-clause-none
returns-clause-none c = λ around size states names start inside sight b a le short first sees loops none pattern e low high r.
    all-last-none around size states names start inside sight b a le short first sees loops none pattern e low high r
