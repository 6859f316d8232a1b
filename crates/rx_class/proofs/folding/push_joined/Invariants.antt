use Rattle.std.proofs.Common.{◌≡◌, ℕ, ◌<◌, ◌≤◌, ◌++◌, length, drop, get_or}
use Rattle.ucd_case.specs.CaseFolding.{fold_pairs}
use Rattle.rx_class.proofs.JoinedLemmas.{joined_to_one}
use Rattle.rx_class.proofs.folding.push_joined.Given as goal

abbrev pub invariant-loop-i : goal.invariant-loop-i
invariant-loop-i l =
    ((k : ℕ) (d : ℕ × ℕ) → l.start ≤ k → k < length fold_pairs → l.fn.low ≤ (get_or fold_pairs k d).0)
    × (l.start ≤ l.i)
    × (l.found.items ++ joined_to_one (drop l.i fold_pairs) (l.fn.low, l.fn.high) ≡ l.fn.found.items ++ joined_to_one fold_pairs (l.fn.low, l.fn.high))
