use Rattle.std.proofs.Common.{◌≡◌}
use Rattle.rx_syntax.proofs.lemmas.patterns.PatternsLemmas.{translate_each}
use Rattle.rx_syntax.proofs.lemmas.weights.WeighLemmas.{AllWeighed}
use Rattle.rx_syntax.proofs.weight.list.weigh_all.Given as goal

abbrev pub invariant-loop-ast : goal.invariant-loop-ast
invariant-loop-ast l = record {
  counted : l.count ≡ l.ast-index;
  weighed : AllWeighed (translate_each l.config l.asts) l.ast-index l.sum.halves l.sum.states;
}
