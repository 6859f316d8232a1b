use Rattle.rx_syntax.proofs.lemmas.patterns.PatternsLemmas.{Gathers, each_answer, expression_of}
use Rattle.rx_syntax.proofs.patterns.parse_each.Given as goal

abbrev pub invariant-loop-pattern : goal.invariant-loop-pattern
invariant-loop-pattern l = Gathers (each_answer (expression_of l.config) l.patterns) l.pattern-index l.parsed.items
