use Rattle.std.proofs.Common.{◌≡◌, ◌<◌, ℕ, length, slice_index}
use Rattle.rx_onepass_build.proofs.settled.numbers.Given as goal

abbrev pub invariant-loop-number : goal.invariant-loop-number
invariant-loop-number l = record {
  len : length l.numbers.items ≡ l.number;
  value : (k : ℕ) → k < l.number → slice_index l.numbers.items k ≡ k;
}
