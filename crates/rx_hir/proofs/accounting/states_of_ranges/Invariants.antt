use Rattle.std.proofs.Common.{◌≡◌, ◌+◌, ◌<◌, ◌^◌, drop}
use Rattle.rx_hir.specs.Cost.{states_of_ranges, capped}
use Rattle.rx_hir.proofs.accounting.states_of_ranges.Given as goal

abbrev pub invariant-loop-low : goal.invariant-loop-low
invariant-loop-low l = record {
  so_far : capped (l.total + states_of_ranges (drop l.low-index l.ranges)) ≡ capped (states_of_ranges l.ranges);
  fits : l.total < 2 ^ 64;
}
