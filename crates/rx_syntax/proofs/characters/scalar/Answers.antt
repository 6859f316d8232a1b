use Rattle.std.proofs.Common.{◌≡◌, ℕ, List, IfOk, subst}
use Rattle.rx_class.specs.Ranges.{next_scalar}
use Rattle.rx_syntax.proofs.lemmas.translation.FewestLemmas.{fewest-one}
use Rattle.rx_syntax.proofs.characters.scalar.Goals as goal

pub returns : goal.returns
returns c = subst (λ (xs : List (ℕ × ℕ)). IfOk c.new.result (λ class. class ≡ xs)) (fewest-one next_scalar _) c.new.ensures
