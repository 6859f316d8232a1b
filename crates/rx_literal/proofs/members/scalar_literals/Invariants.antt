use Rattle.std.proofs.Common.{◌≡◌, ◌≤◌, ◌++◌, length, drop}
use Rattle.std.specs.Prelude.{encode_utf8}
use Rattle.rx_class.specs.Ranges.{next_scalar}
use Rattle.rx_literal.specs.Extract.{members}
use Rattle.rx_literal.proofs.lemmas.prefixes.MemberLemmas.{encoded}
use Rattle.rx_literal.proofs.members.scalar_literals.Given as goal

abbrev pub invariant-loop-low : goal.invariant-loop-low
invariant-loop-low l = record {
  so_far : l.found.items ++ encoded encode_utf8 (members next_scalar (drop l.low-index l.ranges)) ≡ encoded encode_utf8 (members next_scalar l.ranges);
  few : length l.found.items ≤ 10;
}
