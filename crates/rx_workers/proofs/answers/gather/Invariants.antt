use Rattle.std.proofs.Common.{IfOk}
use Rattle.std.specs.List.{All}
use Rattle.rx_slots.specs.SlotSeats.{IsSlotSeat}
use Rattle.rx_workers.specs.Answers.{AreFound}
use Rattle.rx_workers.proofs.answers.gather.Given as goal

abbrev pub invariant-loop-one : goal.invariant-loop-one
invariant-loop-one g l = record {
  seat : IsSlotSeat l.pool l.seat;
  found : IfOk l.all (λ all. All (λ found. AreFound (g.T.Task.size l.task) (g.T.Task.answers l.task) found.items) all.items);
}
