use Rattle.std.proofs.Common.{◌∙◌, ap}
use Rattle.rx_syntax.specs.Weight.{shape_of}
use Rattle.rx_syntax.proofs.lemmas.weights.WeighLemmas.{atom-no_group}
use Rattle.rx_syntax.proofs.weight.Weight.of.Goals as goal

pub returns : goal.returns
returns c = λ k. record {
  states = c.states.ensures k;
  shape = (c.shape_of.ensures ∙ ap shape_of c.kind.ensures.value) k;
  is_null = c.has_no_length.ensures k;
  greatest_group = atom-no_group c.args.hir.now c.requires k;
}
