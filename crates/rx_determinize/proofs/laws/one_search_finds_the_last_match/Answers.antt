use Rattle.rx_determinize.proofs.lemmas.ToldLemmas.{last-some, last-none}
use Rattle.rx_determinize.proofs.laws.one_search_finds_the_last_match.Goals as goal

pub returns-clause-some : goal.returns-clause-some
returns-clause-some c = λ around size states names start inside sight may b a le short before loops sees h is.
    last-some around size states names start inside sight may b a le short before loops (λ j low high alive. sees.sees j low high alive) h is

pub returns-clause-none : goal.returns-clause-none
returns-clause-none c = λ around size states names start inside sight may b a le short before loops sees none pattern e low high on r.
    last-none around size states names start inside sight may b a le short before loops (λ j from to alive. sees.sees j from to alive) none pattern
    e low high on r
