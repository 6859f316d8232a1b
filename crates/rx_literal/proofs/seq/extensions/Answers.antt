use Rattle.std.proofs.Common.{◌∙◌, sym}
use Rattle.rx_literal.proofs.lemmas.prefixes.LiteralLemmas.{extensions-exact, extensions-inexact}
use Rattle.rx_literal.proofs.seq.extensions.Goals as goal

pub returns-then-is_exact : goal.returns-then-is_exact
returns-then-is_exact c = sym (extensions-exact c.args.side c.args.others.now c.args.literal.now (sym c.is_exact.ensures ∙ c.if-is_exact.true))

pub returns-else-is_exact : goal.returns-else-is_exact
returns-else-is_exact c = sym (extensions-inexact c.args.side c.args.others.now c.args.literal.now (sym c.is_exact.ensures ∙ c.if-is_exact.false))
