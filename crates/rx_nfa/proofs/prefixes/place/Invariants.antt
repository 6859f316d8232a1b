use Rattle.std.proofs.Common.{◌≡◌, ℕ, ◌+◌, ◌++◌, List, length}
use Rattle.rx_nfa.specs.Automaton.{state_at}
use Rattle.rx_nfa.specs.Prefixes.{IsOutside, IsPlaced}
use Rattle.rx_nfa.specs.declared.state.State.{State}
use Rattle.rx_nfa.proofs.prefixes.place.Given as goal

abbrev pub invariant-loop-state : goal.invariant-loop-state
invariant-loop-state l = record {
  groups : l.builder.groups ≡ l.initial.builder.groups;
  slots : l.builder.slots ≡ l.initial.builder.slots;
  long : length l.builder.states ≡ length l.initial.builder.states;
  done : List State;
  split : l.fn.states.items ≡ l.left.items ++ done;
  placed : IsPlaced (l.low + length l.left.items) done l.builder.states;
  kept : (r : ℕ) → IsOutside l.low (l.low + length l.fn.states.items) r → state_at l.builder.states r ≡ state_at l.initial.builder.states r;
}

abbrev pub decreases-loop-state : goal.decreases-loop-state
decreases-loop-state l = length l.left.items
