use Rattle.std.proofs.Common.{◌≡◌, ◌++◌, drop}
use Rattle.std.specs.String.{string_bytes}
use lib.Utf8.{encodes}
use Rattle.rx_syntax.proofs.characters.text.Given as goal

abbrev pub invariant-loop-c : goal.invariant-loop-c
invariant-loop-c l = string_bytes l.text ++ encodes (drop l.c-index l.chars) ≡ encodes l.chars
