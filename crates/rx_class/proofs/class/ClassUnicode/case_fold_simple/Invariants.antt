use Rattle.std.proofs.Common.{◌≡◌, ◌++◌, drop, flat_map}
use Rattle.ucd_case.specs.CaseFolding.{fold_pairs}
use Rattle.rx_class.proofs.JoinedLemmas.{joined_to_one}
use Rattle.rx_class.proofs.class.ClassUnicode.case_fold_simple.Given as goal

abbrev pub invariant-loop-low : goal.invariant-loop-low
invariant-loop-low l =
    l.folded.items ++ flat_map (joined_to_one fold_pairs) (drop l.low-index l.ranges)
    ≡ l.ranges ++ flat_map (joined_to_one fold_pairs) l.ranges
