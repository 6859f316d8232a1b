use Rattle.rx_determinize.proofs.lemmas.ReverseLemmas.{once-some, once-none}
use Rattle.rx_determinize.proofs.laws.one_search_finds_the_least_start.Goals as goal

pub returns-clause-some : goal.returns-clause-some
returns-clause-some c = λ nfa range r runs sight text b a le within anchor utf8 last start begins sees h is.
    once-some nfa range r runs sight text b a le within anchor utf8 last start begins (λ j low high alive. sees.sees j low high alive) h is

pub returns-clause-none : goal.returns-clause-none
returns-clause-none c = λ nfa range r runs sight text b a le within anchor utf8 last start begins sees none pattern i low high on m.
    once-none nfa range r runs sight text b a le within anchor utf8 last start begins (λ j from to alive. sees.sees j from to alive) none pattern
    i low high on m
