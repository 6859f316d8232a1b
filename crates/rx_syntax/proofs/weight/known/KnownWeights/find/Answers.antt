use Rattle.std.proofs.Common.{◌∙◌, ap}
use Rattle.rx_syntax.specs.Weight.{set_weight}
use Rattle.rx_syntax.proofs.weight.known.KnownWeights.find.Goals as goal

pub returns-then-is : goal.returns-then-is
returns-then-is c = c.known-item.result.own ∙ ap set_weight (c.is.ensures c.if-is.true)
