use Rattle.std.specs.Prelude.{[], ◌∷◌}
use Rattle.rx_order.proofs.lemmas.Forms.{inner-from, suffix-from}
use Rattle.rx_order.proofs.lemmas.Wider.{separates-ordered}
use Rattle.rx_order.proofs.laws.a_separator_needs_no_look_at_the_literals.Goals as goal

pub returns-clause-suffix : goal.returns-clause-suffix
returns-clause-suffix c = λ h x s is e. suffix-from h x s is (λ t text. separates-ordered t text x e (s ∷ []))

pub returns-clause-inner : goal.returns-clause-inner
returns-clause-inner c = λ h p q ls is begins e. inner-from h p q ls is begins (λ t text. separates-ordered t text p e ls)
