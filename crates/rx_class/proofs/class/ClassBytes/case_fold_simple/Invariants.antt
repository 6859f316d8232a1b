use Rattle.std.proofs.Common.{◌≡◌, ◌++◌, drop, flat_map}
use Rattle.rx_class.specs.Bytes.{other_cases}
use Rattle.rx_class.proofs.class.ClassBytes.case_fold_simple.Given as goal

abbrev pub invariant-loop-low : goal.invariant-loop-low
invariant-loop-low l = l.folded.items ++ flat_map other_cases (drop l.low-index l.low-items) ≡ l.low-items ++ flat_map other_cases l.low-items
