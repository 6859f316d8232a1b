use Rattle.std.proofs.Common.{◌≡◌, ℕ, ◌<◌, ◌≤◌, length, get_or, false}
use Rattle.rx_search.specs.ByteClasses.{class_of}
use Rattle.rx_search.proofs.byte_classes.ByteClassSet.byte_classes.Given as goal

abbrev pub invariant-loop-byte : goal.invariant-loop-byte
invariant-loop-byte l = record {
  len : length l.classes ≡ 256;
  each : (k : ℕ) → k ≤ l.byte → get_or l.classes k 0 ≡ class_of (λ e. get_or l.self-inside.ends e false) k;
  class : l.class ≡ class_of (λ e. get_or l.self-inside.ends e false) l.byte;
  few : l.class ≤ l.byte;
}
