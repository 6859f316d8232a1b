use Rattle.std.specs.Prelude.{[], ◌∷◌}
use Rattle.rx_order.proofs.lemmas.Forms.{inner-from, suffix-from}
use Rattle.rx_order.proofs.lemmas.Wider.{last-ordered}
use Rattle.rx_order.proofs.laws.a_last_separator_keeps_the_order.Goals as goal

pub returns-clause-suffix : goal.returns-clause-suffix
returns-clause-suffix c = λ h x s is e. suffix-from h x s is (λ t text. last-ordered t text x (s ∷ []) e)

pub returns-clause-inner : goal.returns-clause-inner
returns-clause-inner c = λ h p q ls is begins e. inner-from h p q ls is begins (λ t text. last-ordered t text p ls e)
