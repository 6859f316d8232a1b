use Rattle.std.proofs.Common.{◌≡◌, ◌++◌, length, take, drop}
use Rattle.std.specs.Prelude.{chars}
use Rattle.std.specs.List.{take_while}
use Rattle.std.specs.Char.{is_ascii_digit}
use Rattle.rx_reader.specs.Counts.{within, numeral}
use Rattle.rx_reader.proofs.operator.digits_of.Given as goal

abbrev pub invariant-loop-c : goal.invariant-loop-c
invariant-loop-c l = record {
  place : l.len ≡ length l.yielded;
  so_far : take_while is_ascii_digit (chars l.text) ≡ take l.len (chars l.text) ++ take_while is_ascii_digit (drop l.len (chars l.text));
  written : l.value ≡ within (numeral (take l.len (chars l.text)));
}
