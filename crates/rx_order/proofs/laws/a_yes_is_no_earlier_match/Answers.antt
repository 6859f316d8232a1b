use Rattle.rx_order.proofs.lemmas.Forms.{inner-from, suffix-from}
use Rattle.rx_order.proofs.lemmas.Yes.{suffix-ordered, inner-ordered}
use Rattle.rx_order.proofs.laws.a_yes_is_no_earlier_match.Goals as goal

pub returns-clause-suffix : goal.returns-clause-suffix
returns-clause-suffix c = λ h x s is e. suffix-from h x s is (suffix-ordered x s e)

pub returns-clause-inner : goal.returns-clause-inner
returns-clause-inner c = λ h p q ls is begins e. inner-from h p q ls is begins (inner-ordered p ls e)
