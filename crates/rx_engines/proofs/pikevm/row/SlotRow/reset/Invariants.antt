use Rattle.std.proofs.Common.{◌≡◌}
use Rattle.std.specs.Prelude.{replicate, None, vec_capacity}
use Rattle.rx_engines.proofs.pikevm.row.SlotRow.reset.Given as goal

abbrev pub invariant-loop : goal.invariant-loop
invariant-loop l = record {
  made : l.self-inside.cells.items ≡ replicate l.counter None;
  capacity : vec_capacity l.self-inside.cells ≡ vec_capacity l.initial.self-inside.cells;
  room : l.self-inside.room ≡ l.initial.self-inside.room;
}
