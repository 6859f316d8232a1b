use Rattle.rx_syntax.proofs.lemmas.patterns.PatternsLemmas.{Gathers, translate_each}
use Rattle.rx_syntax.proofs.patterns.translate_all.Given as goal

abbrev pub invariant-loop-ast : goal.invariant-loop-ast
invariant-loop-ast l = Gathers (translate_each l.config l.asts) l.ast-index l.exprs.items
