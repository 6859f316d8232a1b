use Rattle.std.proofs.Common.{◌≡◌, ◌≤◌, ◌++◌, ◌∷◌, [], length, drop}
use Rattle.rx_class.specs.Ranges.{next_byte}
use Rattle.rx_literal.specs.Extract.{members}
use Rattle.rx_literal.proofs.lemmas.prefixes.MemberLemmas.{encoded}
use Rattle.rx_literal.proofs.members.byte_literals.Given as goal

abbrev pub invariant-loop-low : goal.invariant-loop-low
invariant-loop-low l = record {
  so_far : l.found.items ++ encoded (λ b. b ∷ []) (members next_byte (drop l.low-index l.ranges)) ≡ encoded (λ b. b ∷ []) (members next_byte l.ranges);
  few : length l.found.items ≤ 10;
}
