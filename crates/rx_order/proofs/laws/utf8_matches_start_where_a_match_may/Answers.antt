use Rattle.rx_order.proofs.lemmas.PermittedLemmas.{utf8-permitted, suffix-some, inner-some}
use Rattle.rx_order.proofs.laws.utf8_matches_start_where_a_match_may.Goals as goal

pub returns-clause-suffix : goal.returns-clause-suffix
returns-clause-suffix c = λ h x s is some utf8 r text a b. utf8-permitted h utf8 (suffix-some h x s is some) r text a b

pub returns-clause-inner : goal.returns-clause-inner
returns-clause-inner c = λ h p q ls is begins some utf8 r text a b. utf8-permitted h utf8 (inner-some h p q ls is begins some) r text a b
