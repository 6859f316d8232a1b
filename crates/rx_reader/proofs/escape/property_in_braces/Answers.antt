use Rattle.std.proofs.Common.{arith}
use Rattle.std.proofs.lemmas.Grind.{common_steps}
use Rattle.rx_reader.specs.Escapes.{property_in_braces}
use Rattle.rx_reader.proofs.escape.property_in_braces.Goals as goal

pub returns-then-is_at_end-clause-value : goal.returns-then-is_at_end-clause-value
unfolding property_in_braces
returns-then-is_at_end-clause-value c from start = rw c.refuse_from.ensures (grind (arith, common_steps))

pub returns-clause-value : goal.returns-clause-value
unfolding property_in_braces
returns-clause-value c from start = grind (arith, common_steps)
