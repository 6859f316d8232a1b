use Rattle.std.proofs.Common.{refl}
use Rattle.rx_model.specs.Search.{greatest_group}
use Rattle.rx_syntax.proofs.weight.Weight.fail.Goals as goal

pub returns : goal.returns
unfolding greatest_group
returns c = refl
