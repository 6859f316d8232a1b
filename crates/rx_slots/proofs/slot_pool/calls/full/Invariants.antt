use Rattle.std.proofs.Common.{◌≡◌, map, Some}
use Rattle.rx_slots.proofs.slot_pool.calls.full.Given as goal

abbrev pub invariant-loop-value : goal.invariant-loop-value
invariant-loop-value g l = l.slots.items ≡ map Some l.yielded
