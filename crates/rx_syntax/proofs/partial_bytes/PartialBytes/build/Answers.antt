use Rattle.std.proofs.Common.{◌≡◌, ℕ, List, ◌∙◌, ap, subst}
use Rattle.std.specs.Prelude.{IfOk}
use Rattle.rx_class.specs.Ranges.{next_byte, fewest}
use Rattle.rx_syntax.proofs.partial_bytes.PartialBytes.build.Goals as goal

pub returns : goal.returns
returns c ranges is =
    subst (λ (xs : List (ℕ × ℕ)). IfOk c.new.result (λ class. class ≡ xs)) (ap (fewest next_byte) c.deref.ensures.value ∙ is.members) c.new.ensures
