use Rattle.std.proofs.Common.{sym, ◌∙◌}
use Rattle.rx_pre.proofs.WholeLemmas.{needles-none}
use Rattle.rx_pre.proofs.literals.of_expression.Goals as goal

pub returns-then-not-is_plain-clause-value : goal.returns-then-not-is_plain-clause-value
returns-then-not-is_plain-clause-value c = needles-none c.args.hir.now (sym c.is_plain.ensures.value ∙ c.if-not-is_plain.true)
