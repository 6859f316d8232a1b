use Rattle.std.proofs.Common.{◌≤◌, ◌+◌}
use Rattle.std.specs.List.{All}
use Rattle.rx_slots.specs.DrawSeats.{draw_view}
use Rattle.rx_slots.specs.SlotSeats.{IsSlotSeat}
use Rattle.rx_workers.specs.Places.{IsDrawer, IsPlace}
use Rattle.rx_workers.proofs.place.places.Given as goal

abbrev pub invariant-loop-k : goal.invariant-loop-k
invariant-loop-k g l = record {
  placed : All (IsPlace l.pool l.draws) l.all.items;
  seat : IsSlotSeat l.pool l.seat;
  drawer : IsDrawer l.draws l.first;
  left : l.workers ≤ (draw_view l.first).left + l.k;
}
