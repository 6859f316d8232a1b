use Rattle.rx_util.proofs.MachineLemmas.{none-is-lent-twice, stays-sound}
use Rattle.rx_util.proofs.stack.no_number_is_lent_twice.Goals as goal

pub returns : goal.returns
returns c = record { lent = none-is-lent-twice; sound = stays-sound }
