use Rattle.rx_search.proofs.GroupSlotLemmas.{slots_written}
use Rattle.rx_search.proofs.group_info.slots_are_written.Goals as goal

pub returns : goal.returns
returns c = slots_written
