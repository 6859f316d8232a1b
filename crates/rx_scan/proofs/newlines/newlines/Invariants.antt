use Rattle.std.proofs.Common.{◌≡◌, ◌+◌, ◌<◌, ◌++◌, length, All}
use Rattle.std.specs.Prelude.{map}
use Rattle.rx_scan.specs.Lines.{newlines}
use Rattle.rx_scan.proofs.newlines.newlines.Given as goal

abbrev pub invariant-places : goal.invariant-places
invariant-places l = record {
  told : l.all.items ++ map (λ n. l.at + n) l.place-iterator ≡ newlines l.at l.text;
  within : All (λ n. n < length l.text) l.place-iterator;
}
