use Rattle.std.proofs.Common.{◌≡◌, ℕ, ◌<◌, length, get_or}
use Rattle.rx_search.proofs.byte_classes.ByteClasses.singletons.Given as goal

abbrev pub invariant-loop-byte : goal.invariant-loop-byte
invariant-loop-byte l = record {
  len : length l.classes ≡ 256;
  each : (k : ℕ) → k < l.byte → get_or l.classes k 0 ≡ k;
}
