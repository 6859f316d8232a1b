use Rattle.std.proofs.Common.{◌≡◌, ◌+◌, false, length, drop}
use Rattle.std.specs.Prelude.{chars}
use Rattle.rx_reader.specs.Ahead.{blank_len}
use Rattle.rx_reader.proofs.cursor.ahead.blank_gap.Given as goal

abbrev pub invariant-loop-c : goal.invariant-loop-c
invariant-loop-c l = record {
  place : l.len ≡ length l.yielded;
  so_far : l.len + blank_len l.in_comment (drop l.len (chars l.text)) ≡ blank_len false (chars l.text);
}
