use Rattle.std.proofs.Common.{◌≡◌, ◌≤◌, length, drop, take}
use Rattle.std.specs.Prelude.{reverse}
use Rattle.rx_literal.specs.Trim.{common_from_behind}
use Rattle.rx_literal.proofs.suffix.common_suffix.Given as goal

abbrev pub invariant-loop-other : goal.invariant-loop-other
invariant-loop-other l = record {
  so_far : common_from_behind (take l.len (reverse l.first)) (drop l.other-index l.others) ≡ common_from_behind (reverse l.first) l.others;
  bound : l.len ≤ length l.first;
}
