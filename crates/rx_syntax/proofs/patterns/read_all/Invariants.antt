use Rattle.rx_syntax.proofs.lemmas.patterns.PatternsLemmas.{Gathers, each_answer, syntax_of}
use Rattle.rx_syntax.proofs.patterns.read_all.Given as goal

abbrev pub invariant-loop-pattern : goal.invariant-loop-pattern
invariant-loop-pattern l = Gathers (each_answer (syntax_of l.config) l.patterns) l.pattern-index l.asts.items
