use Rattle.std.proofs.Common.{◌<◌}
use Rattle.std.specs.List.{All}
use Rattle.rx_slots.specs.DrawSeats.{limit_of}
use Rattle.rx_workers.specs.Places.{IsDrawer}
use Rattle.rx_workers.proofs.worker.draw_some.Given as goal

abbrev pub invariant-numbers : goal.invariant-numbers
invariant-numbers l = record {
  drawer : IsDrawer l.draws l.drawer;
  drawn : All (λ i. i < limit_of l.draws) l.drawn.items;
}
