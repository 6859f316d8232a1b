use Rattle.std.proofs.Common.{◌≡◌, ◌<◌, ◌+◌, length, take}
use Rattle.std.specs.Prelude.{All, map}
use Rattle.rx_nfa.specs.Built.{AddsAll}
use Rattle.rx_nfa.proofs.lemmas.parts.DigitsBuilt.{build_first}
use Rattle.rx_nfa.proofs.backwards.push_first_digits.Given as goal

abbrev pub invariant-loop-range : goal.invariant-loop-range
invariant-loop-range l = record {
  adds : AddsAll (map (build_first l.lead) (take l.range-index l.ranges)) l.next l.initial.builder l.builder l.initial.starts.items l.starts.items;
  inside : All (λ q. q < length l.builder.states) l.starts.items;
  count : length l.builder.states ≡ length l.initial.builder.states + l.range-index;
  ways : length l.starts.items ≡ length l.initial.starts.items + l.range-index;
}
