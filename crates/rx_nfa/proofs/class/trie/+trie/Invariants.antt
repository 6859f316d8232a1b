use Rattle.std.proofs.Common.{ℕ, ◌<◌, ◌≤◌, ◌+◌, ◌*◌, length}
use Rattle.rx_model.specs.Text.{is_member}
use Rattle.rx_nfa.specs.Ranges.{ends_in, size_of_block, IsRest}
use Rattle.rx_nfa.specs.Row.{Ascends, IsReader, AddsReaders}
use Rattle.rx_nfa.specs.States.{AreClosed}
use Rattle.rx_nfa.specs.Trie.{IsRow, IsReady}
use Rattle.rx_nfa.proofs.class.trie.+trie.Given as goal

abbrev pub decreases-block : goal.decreases-block
decreases-block l = 2 * l.depth

abbrev pub decreases-row : goal.decreases-row
decreases-row l = 2 * l.children.depth + 1

abbrev pub invariant-row-loop-k : goal.invariant-row-loop-k
invariant-row-loop-k l = record {
  grows : AddsReaders l.initial.states.items l.states.items;
  closed : (base next : ℕ) → IsReady base l.initial.states.items next l.whole → next < length l.initial.states.items
      → AreClosed l.initial.states.items → AreClosed l.states.items;
  rest : IsRest (l.start + l.k * size_of_block l.depth) l.ranges l.rest;
  ascends : Ascends 0 (l.first + l.k) l.transitions.items;
  built : (base next : ℕ) → IsReady base l.initial.states.items next l.whole
      → IsRow (IsReader base l.states.items) next (is_member l.ranges) l.depth l.start l.first l.k l.initial.transitions.items l.transitions.items;
  count : length l.states.items ≤ length l.initial.states.items + l.depth * ends_in l.ranges l.start (l.start + l.k * size_of_block l.depth);
}
