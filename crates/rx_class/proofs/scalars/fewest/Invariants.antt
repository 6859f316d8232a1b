use Rattle.std.proofs.Common.{◌≡◌, ℕ, ◌<◌, [], drop, get_or}
use Rattle.std.specs.Char.{IsScalar}
use Rattle.rx_class.specs.Merged.{add_all}
use Rattle.rx_class.specs.Ranges.{next_scalar}
use Rattle.rx_class.proofs.scalars.fewest.Given as goal

abbrev pub invariant-loop-low : goal.invariant-loop-low
invariant-loop-low l = record {
  so_far : add_all next_scalar l.found.items (drop l.low-index l.sorted) ≡ add_all next_scalar [] l.sorted;
  ends : (k : ℕ) (d : ℕ × ℕ) → k < l.low-index → IsScalar (get_or l.sorted k d).0 × IsScalar (get_or l.sorted k d).1;
}
