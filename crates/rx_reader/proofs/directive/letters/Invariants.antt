use Rattle.std.proofs.Common.{◌≡◌, ◌++◌, length, drop}
use Rattle.std.specs.Prelude.{chars}
use Rattle.rx_reader.specs.Flags.{letters, letters_after}
use Rattle.rx_reader.proofs.directive.letters.Given as goal

abbrev pub invariant-loop-c : goal.invariant-loop-c
invariant-loop-c l = record {
  place : length l.named.items ≡ length l.yielded;
  so_far : letters (chars l.text) ≡ l.named.items ++ letters_after l.named.items (drop (length l.named.items) (chars l.text));
}
