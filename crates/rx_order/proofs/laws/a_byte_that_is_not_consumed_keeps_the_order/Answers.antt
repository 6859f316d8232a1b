use Rattle.std.specs.Prelude.{[], ◌∷◌}
use Rattle.rx_order.proofs.lemmas.Forms.{inner-from, suffix-from}
use Rattle.rx_order.proofs.lemmas.Consume.{byte-ordered}
use Rattle.rx_order.proofs.laws.a_byte_that_is_not_consumed_keeps_the_order.Goals as goal

pub returns-clause-suffix : goal.returns-clause-suffix
returns-clause-suffix c = λ h x s is e. suffix-from h x s is (byte-ordered x s e)

pub returns-clause-inner : goal.returns-clause-inner
returns-clause-inner c = λ h p q ls is begins e. inner-from h p q (ls ∷ []) is begins (byte-ordered p ls e)
