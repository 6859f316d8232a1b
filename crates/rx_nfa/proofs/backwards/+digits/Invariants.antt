use Rattle.std.proofs.Common.{◌≡◌, ◌<◌, ◌≤◌, ◌+◌, ◌-◌, ◌*◌, length, take, drop}
use Rattle.std.specs.Prelude.{All, map, sum_by}
use Rattle.rx_nfa.specs.Built.{AddsAll}
use Rattle.rx_nfa.specs.Directed.{build_behind}
use Rattle.rx_nfa.specs.Digits.{states_behind}
use Rattle.rx_nfa.proofs.backwards.+digits.Given as goal

abbrev pub invariant-push_groups-loop-last : goal.invariant-push_groups-loop-last
invariant-push_groups-loop-last l = record {
  adds : AddsAll (map (build_behind l.lead (l.depth - 1) l.pieces) (take l.last-index l.last-items)) l.fn.next l.initial.builder l.builder
      l.initial.starts.items l.starts.items;
  inside : All (λ q. q < length l.builder.states) l.starts.items;
  longer : length l.initial.builder.states ≤ length l.builder.states;
  count : length l.builder.states + sum_by (states_behind (l.depth - 1) l.pieces) (drop l.last-index l.last-items)
      ≡ length l.initial.builder.states + sum_by (states_behind (l.depth - 1) l.pieces) l.last-items;
  ways : length l.starts.items ≡ length l.initial.starts.items + l.last-index;
}

abbrev pub decreases-push_digits : goal.decreases-push_digits
decreases-push_digits l = 3 * l.depth + 2

abbrev pub decreases-push_groups : goal.decreases-push_groups
decreases-push_groups l = 3 * l.depth + 1

abbrev pub decreases-push_last : goal.decreases-push_last
decreases-push_last l = 3 * l.depth
