-- Epsilon walks stay among the states.
use Rattle.std.proofs.Common.{ℕ, ◌<◌, List, [], ◌∷◌, length, subst}
use Rattle.std.specs.Prelude.{true, All}
use Rattle.std.proofs.lemmas.List.Elements.{All-get_or}
use Rattle.rx_nfa.specs.Automaton.{state_at, NamesBelow}
use Rattle.rx_nfa.specs.Walks.{epsilon_targets, chosen, WalksTo}
use Rattle.rx_nfa.specs.declared.state.State.{State}
use Rattle.rx_nfa.specs.declared.state.State.TheVariants.{Fail}
use Rattle.rx_nfa.proofs.lemmas.lists.ClosureLemmas.{epsilon_successors-below}

-- a walk leads to a state that is there
pub walks-inside : (states : List State) → All (NamesBelow (length states)) states → (q : ℕ) (ks : List ℕ) (r : ℕ) → q < length states
    → WalksTo states q ks r → r < length states
walks-inside states names q [] r lt w = subst (λ x. x < length states) w lt
walks-inside states names q (k ∷ ks) r lt w =
    let on = All-get_or (λ x. x < length states) (epsilon_targets (state_at states q)) k q w.0
    (epsilon_successors-below (length states) (λ kind. true) (state_at states q) (All-get_or (NamesBelow (length states)) states q Fail lt names)) in
    walks-inside states names (chosen states q k) ks r on w.1
