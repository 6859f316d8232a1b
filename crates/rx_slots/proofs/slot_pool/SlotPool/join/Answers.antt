use Rattle.std.proofs.Common.{rules}
use Rattle.rx_slots.proofs.SlotLemmas.{joins_seat, carries_none}
use Rattle.rx_slots.proofs.slot_pool.SlotPool.join.Goals as goal

pub join_seat-requires : goal.join_seat-requires
join_seat-requires g c = (
  search rules,
  search rules,
  carries_none c.args.other.seat.me c.requires.other.1 c.requires.holds_none,
  search rules,
  joins_seat _ _ _ _,
)
