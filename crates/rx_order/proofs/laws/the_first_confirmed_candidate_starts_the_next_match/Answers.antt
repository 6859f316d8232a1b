use Rattle.rx_order.proofs.lemmas.NextLemmas.{least-next, none-next}
use Rattle.rx_order.proofs.laws.the_first_confirmed_candidate_starts_the_next_match.Goals as goal

pub returns-clause-suffix : goal.returns-clause-suffix
returns-clause-suffix c = λ r h s one ordered is text b a permitted d i confirmed first. least-next r h one ordered text b a permitted i
    ((is r.terminator text a b).some d i confirmed first)

pub returns-clause-no_suffix : goal.returns-clause-no_suffix
returns-clause-no_suffix c = λ r h s one ordered is text b a permitted none. none-next r h one ordered text b a permitted ((is r.terminator text a b).none none)

pub returns-clause-inner : goal.returns-clause-inner
returns-clause-inner c = λ r h p ls one ordered is text b a permitted d i confirmed first. least-next r h one ordered text b a permitted i
    ((is r.terminator text a b).some d i confirmed first)

pub returns-clause-no_inner : goal.returns-clause-no_inner
returns-clause-no_inner c =
    λ r h p ls one ordered is text b a permitted none. none-next r h one ordered text b a permitted ((is r.terminator text a b).none none)
