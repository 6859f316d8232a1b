use Rattle.std.proofs.Common.{◌≡◌, length}
use Rattle.rx_literal.specs.Trim.{picked}
use Rattle.rx_literal.proofs.trim.picked.Given as goal

abbrev pub invariant-loop-literal : goal.invariant-loop-literal
invariant-loop-literal l = record {
  so_far : l.kept.items ≡ picked l.yielded l.marks;
  place : l.i ≡ length l.yielded;
}
