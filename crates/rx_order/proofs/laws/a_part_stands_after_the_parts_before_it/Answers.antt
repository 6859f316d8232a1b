use Rattle.rx_order.specs.Inner.{before_part, from_part}
use Rattle.rx_order.proofs.lemmas.Forms.{inner-from}
use Rattle.rx_order.proofs.lemmas.Yes.{inner-ordered}
use Rattle.rx_order.proofs.lemmas.InnerLemmas.{parts-then}
use Rattle.rx_order.proofs.laws.a_part_stands_after_the_parts_before_it.Goals as goal

pub returns-clause-parts : goal.returns-clause-parts
returns-clause-parts c = λ h ordered parts e n. parts-then h ordered parts e n

pub returns-clause-order : goal.returns-clause-order
returns-clause-order c = λ h ordered parts e n ls begins pass.
    inner-from h (before_part n parts) (from_part n parts) ls (parts-then h ordered parts e n) begins (inner-ordered (before_part n parts) ls pass)
