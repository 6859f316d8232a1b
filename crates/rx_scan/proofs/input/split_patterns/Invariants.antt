use Rattle.std.proofs.Common.{length}
use Rattle.std.specs.List.{All}
use Rattle.std.specs.Str.{IsUtf8}
use Rattle.rx_scan.proofs.ReadingLemmas.{Cut}
use Rattle.rx_scan.proofs.input.split_patterns.Given as goal

abbrev pub invariant-lines : goal.invariant-lines
invariant-lines l = record {
  cut : Cut (λ line. line.now) l.text l.patterns.items l.rest;
  each : All (λ line. IsUtf8 line.now) l.patterns.items;
  utf8 : IsUtf8 l.rest;
}

abbrev pub decreases-lines : goal.decreases-lines
decreases-lines l = length l.rest
