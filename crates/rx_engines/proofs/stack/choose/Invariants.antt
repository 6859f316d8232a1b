use Rattle.std.proofs.Common.{◌≡◌, ◌≤◌, ◌+◌, ◌++◌, length, drop}
use Rattle.std.specs.Prelude.{map}
use Rattle.rx_nfa.specs.Automaton.{at}
use Rattle.rx_engines.specs.Walk.{explore_all}
use Rattle.rx_engines.proofs.stack.choose.Given as goal

abbrev pub invariant-loop-left : goal.invariant-loop-left
invariant-loop-left l = record {
  pushed : l.stack.items ≡ explore_all (map (λ q. at q l.place) (drop l.left l.alternates)) ++ l.fn.stack.items;
  few : length l.stack.items + l.left ≤ length l.alternates + length l.fn.stack.items;
  room : l.stack.room ≡ l.fn.stack.room;
  above : 1 ≤ l.left;
  within : l.left ≤ length l.alternates;
}

abbrev pub decreases-loop-left : goal.decreases-loop-left
decreases-loop-left l = l.left
