use Rattle.std.proofs.Common.{not, ◌==◌, bit_and, ap₂}
use Rattle.rx_search.specs.LookSet.{has}
use Rattle.rx_search.proofs.look_set.LookSet.contains.Goals as goal

pub returns : goal.returns
unfolding has
returns c = ap₂ (λ s r. not (bit_and s r == 0)) c.self.view_is c.as_repr.ensures
