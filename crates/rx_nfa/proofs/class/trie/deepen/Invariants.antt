use Rattle.std.proofs.Common.{ℕ, ◌≤◌, ◌<◌, ◌+◌, length, take}
use Rattle.rx_nfa.specs.Row.{AddsReaders}
use Rattle.rx_nfa.specs.Ranges.{CoversUpTo, whole_depths}
use Rattle.rx_nfa.specs.States.{AreClosed}
use Rattle.rx_nfa.specs.Trie.{IsReady}
use Rattle.rx_nfa.proofs.class.trie.deepen.Given as goal

abbrev pub invariant-loop-range : goal.invariant-loop-range
invariant-loop-range l = record {
  some : 0 < length l.whole.items;
  grows : AddsReaders l.initial.states.items l.states.items;
  closed : (base next : ℕ) → IsReady base l.initial.states.items next l.initial.whole.items → next < length l.initial.states.items
      → AreClosed l.initial.states.items → AreClosed l.states.items;
  ready : (base next : ℕ) → IsReady base l.initial.states.items next l.initial.whole.items → IsReady base l.states.items next l.whole.items;
  enough : CoversUpTo l.deepest (length l.whole.items) (take l.range-index l.ranges);
  count : length l.states.items ≤ length l.initial.states.items + whole_depths l.deepest (take l.range-index l.ranges);
}
