use Rattle.std.proofs.Common.{arith}
use Rattle.std.proofs.lemmas.Grind.{common_steps}
use Rattle.rx_reader.specs.Escapes.{boundary}
use Rattle.rx_reader.proofs.escape.boundary.Goals as goal

pub returns-then-bump_word-clause-value : goal.returns-then-bump_word-clause-value
unfolding boundary
returns-then-bump_word-clause-value c = grind (arith, common_steps)

pub returns-then-bump_word-2-clause-value : goal.returns-then-bump_word-2-clause-value
unfolding boundary
returns-then-bump_word-2-clause-value c = grind (arith, common_steps)

pub returns-then-bump_word-3-clause-value : goal.returns-then-bump_word-3-clause-value
unfolding boundary
returns-then-bump_word-3-clause-value c = grind (arith, common_steps)

pub returns-then-bump_word-4-clause-value : goal.returns-then-bump_word-4-clause-value
unfolding boundary
returns-then-bump_word-4-clause-value c = grind (arith, common_steps)

pub returns-clause-value : goal.returns-clause-value
unfolding boundary
returns-clause-value c = grind (arith, common_steps)
