use Rattle.std.proofs.Common.{ℕ, ◌<◌, ◌≡◌, ◌≤◌, ◌+◌, ◌-◌, length, max}
use Rattle.rx_nfa.specs.Row.{AddsReaders}
use Rattle.rx_nfa.specs.States.{AreClosed}
use Rattle.rx_nfa.specs.Trie.{IsReady}
use Rattle.rx_nfa.proofs.class.trie.reach.Given as goal

abbrev pub invariant-loop-alloc : goal.invariant-loop-alloc
invariant-loop-alloc l = record {
  grows : AddsReaders l.initial.states.items l.states.items;
  closed : (base next : ℕ) → IsReady base l.initial.states.items next l.initial.whole.items → next < length l.initial.states.items
      → AreClosed l.initial.states.items → AreClosed l.states.items;
  ready : (base next : ℕ) → IsReady base l.initial.states.items next l.initial.whole.items → IsReady base l.states.items next l.whole.items;
  longer : length l.initial.whole.items ≤ length l.whole.items;
  most : length l.whole.items ≤ max (length l.initial.whole.items) (l.depth + 1);
  count : length l.states.items + length l.initial.whole.items ≡ length l.initial.states.items + length l.whole.items;
}

abbrev pub decreases-loop-alloc : goal.decreases-loop-alloc
decreases-loop-alloc l = l.depth + 1 - length l.whole.items
