use Rattle.std.proofs.Common.{◌≡◌, ◌≤◌, ◌+◌, ◌-◌, length, drop, take}
use Rattle.std.specs.Prelude.{reverse}
use Rattle.rx_literal.specs.Trim.{common_prefix}
use Rattle.rx_literal.proofs.suffix.common_len.Given as goal

abbrev pub invariant-loop-len : goal.invariant-loop-len
invariant-loop-len l = record {
  so_far : l.len + length (common_prefix (drop l.len (take l.most (reverse l.first))) (drop l.len (reverse l.second)))
      ≡ length (common_prefix (take l.most (reverse l.first)) (reverse l.second));
  bound : l.len ≤ l.most;
}

abbrev pub decreases-loop-len : goal.decreases-loop-len
decreases-loop-len l = l.most - l.len
