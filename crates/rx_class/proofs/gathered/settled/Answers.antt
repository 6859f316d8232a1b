use Rattle.std.proofs.Common.{◌∙◌, ap}
use Rattle.rx_class.specs.Ranges.{next_scalar, fewest}
use Rattle.rx_class.proofs.EarlyLemmas.{fewest-itself}
use Rattle.rx_class.proofs.gathered.settled.Goals as goal

pub returns : goal.returns
returns c =
    fewest-itself c.in_ok-ranges.ranges.items c.in_ok-ranges.ensures.fewest ∙ c.in_ok-ranges.ensures.value ∙ ap (fewest next_scalar) c.deref.ensures.value
