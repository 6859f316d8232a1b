use Rattle.std.proofs.Common.{◌≡◌, ◌-◌, [], length, reverse}
use Rattle.rx_nfa.specs.Ordered.{AreBelow, close}
use Rattle.rx_dfa.specs.Beside.{known}
use Rattle.rx_dfa.proofs.lemmas.CloseLemmas.{steps_left}
use Rattle.rx_dfa.proofs.close.close.Given as goal

abbrev pub invariant-loop-beside : goal.invariant-loop-beside
invariant-loop-beside l = record {
  same : close l.states (known l.matcher l.beside) (length l.states - length l.walk.seen.items.items) (reverse l.walk.stack.items) l.walk.seen.items.items
      ≡ close l.states (known l.matcher l.beside) (length l.states) l.from [];
  below : AreBelow (length l.states) (reverse l.walk.stack.items);
  room : length l.walk.seen.marks.items ≡ length l.states;
}

abbrev pub decreases-loop-beside : goal.decreases-loop-beside
decreases-loop-beside l =
    steps_left l.states (known l.matcher l.beside) (length l.states - length l.walk.seen.items.items) (reverse l.walk.stack.items) l.walk.seen.items.items
