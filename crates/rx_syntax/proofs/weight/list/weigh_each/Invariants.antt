use Rattle.std.proofs.Common.{◌≡◌}
use Rattle.rx_syntax.proofs.lemmas.patterns.PatternsLemmas.{each_answer, expression_of}
use Rattle.rx_syntax.proofs.lemmas.weights.WeighLemmas.{AllWeighed}
use Rattle.rx_syntax.proofs.weight.list.weigh_each.Given as goal

abbrev pub invariant-loop-pattern : goal.invariant-loop-pattern
invariant-loop-pattern l = record {
  counted : l.count ≡ l.pattern-index;
  weighed : AllWeighed (each_answer (expression_of l.config) l.patterns) l.pattern-index l.sum.halves l.sum.states;
}
