use Rattle.rx_search.proofs.LookSetLemmas.{has-none}
use Rattle.rx_search.proofs.look_set.LookSet.empty.Goals as goal

pub returns : goal.returns
returns c kind = has-none kind
