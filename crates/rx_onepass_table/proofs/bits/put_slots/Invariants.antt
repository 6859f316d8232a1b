use Rattle.std.proofs.Common.{◌≡◌, ◌<◌, ◌==◌, ℕ, length, get_or, if◌then◌else◌}
use Rattle.std.specs.Prelude.{Some, None}
use Rattle.std.specs.Int.{bit_at}
use Rattle.rx_onepass_table.proofs.bits.put_slots.Given as goal

abbrev pub invariant-loop-k : goal.invariant-loop-k
invariant-loop-k l = record {
  same : length l.out ≡ length l.places;
  done : (k : ℕ) → k < l.k → get_or l.out k None ≡ (if bit_at l.set k == 1 then Some l.at else get_or l.places k None);
}
