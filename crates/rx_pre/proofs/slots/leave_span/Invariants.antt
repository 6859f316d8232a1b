use Rattle.std.proofs.Common.{◌≡◌, ◌<◌, ℕ, length, get_or}
use Rattle.std.specs.Prelude.{None}
use Rattle.rx_pre.specs.Found.{slot_in}
use Rattle.rx_pre.proofs.slots.leave_span.Given as goal

abbrev pub invariant-loop-k : goal.invariant-loop-k
invariant-loop-k l = record {
  same : length l.slots ≡ length l.initial.slots;
  left : (j : ℕ) → j < l.k → get_or l.slots j None ≡ slot_in l.found j;
}
