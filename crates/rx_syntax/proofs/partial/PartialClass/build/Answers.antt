use Rattle.std.proofs.Common.{◌≡◌, ℕ, List, subst}
use Rattle.std.specs.Prelude.{IfOk}
use Rattle.rx_syntax.proofs.partial.PartialClass.build.Goals as goal

pub returns : goal.returns
returns c ranges is = subst (λ (xs : List (ℕ × ℕ)). IfOk c.build.result (λ class. class ≡ xs)) is.members c.build.ensures
