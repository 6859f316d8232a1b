use Rattle.std.proofs.Common.{◌≡◌, ◌==◌, ◌++◌, length, drop}
use Rattle.std.specs.Prelude.{chars}
use Rattle.rx_reader.specs.Names.{name_of}
use Rattle.rx_reader.proofs.lemmas.places.FrontLemmas.{name_from}
use Rattle.rx_reader.proofs.name.name_of.Given as goal

abbrev pub invariant-loop-c : goal.invariant-loop-c
invariant-loop-c l = record {
  place : length l.name.items ≡ length l.yielded;
  so_far : name_of (chars l.text) ≡ l.name.items ++ name_from (length l.name.items == 0) (drop (length l.name.items) (chars l.text));
}
