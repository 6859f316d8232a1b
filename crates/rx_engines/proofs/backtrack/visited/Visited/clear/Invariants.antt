use Rattle.std.proofs.Common.{◌≡◌, ◌<◌, ◌≤◌, ℕ, length, get_or}
use Rattle.rx_engines.proofs.backtrack.visited.Visited.clear.Given as goal

abbrev pub invariant-loop-k : goal.invariant-loop-k
invariant-loop-k l = record {
  same : length l.self-inside.words.items ≡ length l.initial.self-inside.words.items;
  zero_below : (j : ℕ) → j < l.k → get_or l.self-inside.words.items j 0 ≡ 0;
  zero_above : (j : ℕ) → l.initial.self-inside.used ≤ j → get_or l.self-inside.words.items j 0 ≡ 0;
}
