-- Lists of states: what stands at a number, and lists that are closed.
use Rattle.std.specs.Prelude.{◌≡◌, ℕ, ◌<◌, ◌≤◌, List, length, All}
use Rattle.rx_nfa.specs.Automaton.{state_at, NamesBelow}
use Rattle.rx_nfa.specs.declared.state.State.{State}

-- state q is one of the states from the base on, and it is `state`
pub record Stands (base : ℕ) (states : List State) (q : ℕ) (state : State) : Type 0 where
  pub above : base ≤ q
  pub inside : q < length states
  pub is : state_at states q ≡ state

-- each state that a state goes on to is there
abbrev pub AreClosed : List State → Type 0
AreClosed states = All (NamesBelow (length states)) states
