use Rattle.std.proofs.Common.{◌≡◌, ◌≤◌, ◌<◌, ℕ, true, false, get_or}
use Rattle.rx_engines.specs.StartBytes.{Marks}
use Rattle.rx_engines.proofs.candidates.start_bytes.mark.mark_range.Given as goal

abbrev pub invariant-loop-byte : goal.invariant-loop-byte
invariant-loop-byte l = record {
  kept : Marks l.fn.has l.has;
  marked : (b : ℕ) → l.start ≤ b → b < l.byte → get_or l.has b false ≡ true;
}
