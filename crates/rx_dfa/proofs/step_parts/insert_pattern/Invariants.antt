use Rattle.std.proofs.Common.{◌≡◌, ◌++◌, drop, take}
use Rattle.rx_determinize.specs.Key.{with_pattern}
use Rattle.rx_dfa.proofs.step_parts.insert_pattern.Given as goal

abbrev pub invariant-loop-place : goal.invariant-loop-place
invariant-loop-place l = record {
  rest : take l.place l.list.items ++ with_pattern l.pattern (drop l.place l.list.items) ≡ with_pattern l.pattern l.fn.list.items;
}
