use Rattle.std.proofs.Common.{rules}
use Rattle.rx_slots.proofs.SlotLemmas.{splits_seat}
use Rattle.rx_slots.proofs.slot_pool.SlotPool.split.Goals as goal

pub split_seat-another-requires : goal.split_seat-another-requires
split_seat-another-requires g c = (search rules, search rules, splits_seat _ _)
