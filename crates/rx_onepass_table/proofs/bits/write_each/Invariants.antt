use Rattle.std.proofs.Common.{◌≡◌, ◌==◌, ℕ, length, get_or, if◌then◌else◌}
use Rattle.std.specs.Prelude.{Some, None}
use Rattle.std.specs.Int.{bit_at}
use Rattle.rx_onepass_table.proofs.bits.write_each.Given as goal

abbrev pub invariant-loop-left : goal.invariant-loop-left
invariant-loop-left l = record {
  same : length l.places ≡ length l.initial.places;
  members : (k : ℕ) → bit_at l.left k ≡ 1 → bit_at l.set k ≡ 1;
  kept : (k : ℕ) → bit_at l.left k ≡ 1 → get_or l.places k None ≡ get_or l.initial.places k None;
  done : (k : ℕ) → bit_at l.left k ≡ 0 → get_or l.places k None ≡ (if bit_at l.set k == 1 then Some l.at else get_or l.initial.places k None);
}

abbrev pub decreases-loop-left : goal.decreases-loop-left
decreases-loop-left l = l.left
