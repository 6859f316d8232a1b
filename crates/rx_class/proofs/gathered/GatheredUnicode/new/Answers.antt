use Rattle.std.proofs.Common.{ap}
use Rattle.rx_class.specs.Ranges.{next_scalar, fewest}
use Rattle.rx_class.proofs.gathered.GatheredUnicode.new.Goals as goal

pub returns : goal.returns
unfolding fewest
returns c = ap (fewest next_scalar) c.new.ensures.items
