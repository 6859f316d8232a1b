use Rattle.std.proofs.Common.{◌≡◌, ◌<◌, ℕ, length, get_or}
use Rattle.std.specs.Prelude.{None}
use Rattle.rx_engines.proofs.slots.clear.Given as goal

abbrev pub invariant-loop-i : goal.invariant-loop-i
invariant-loop-i l = record {
  same : length l.slots ≡ length l.initial.slots;
  empty : (k : ℕ) → k < l.i → get_or l.slots k None ≡ None;
}
