use Rattle.std.proofs.Common.{◌≡◌, length, take, replicate}
use Rattle.std.specs.Prelude.{None}
use Rattle.rx_onepass.proofs.walk.empty.Given as goal

abbrev pub invariant-loop-i : goal.invariant-loop-i
invariant-loop-i l = record {
  same : length l.slots ≡ length l.initial.slots;
  empty : take l.i l.slots ≡ replicate l.i None;
}
