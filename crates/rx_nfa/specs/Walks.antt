-- Epsilon walks: from a state to a state at one place, whatever look-around holds there. A walk is the list of its choices: at
-- each state the position, among those that it goes on to, of the one that is taken. So two equal members of one union give two
-- walks.
use Rattle.std.specs.Prelude.{◌≡◌, ◌≢◌, ℕ, ◌<◌, ◌⊎◌, List, [], ◌∷◌, ◌++◌, length, Option, Some, None, true, option_to_list, slice_index_or}
use Rattle.rx_model.specs.Look as model
use Rattle.rx_search.specs.Look.{kind_of}
use Rattle.rx_nfa.specs.Automaton.{state_at, state_writes}
use Rattle.rx_nfa.specs.Ordered.{epsilon_successors}
use Rattle.rx_nfa.specs.declared.state.State.{State}
use Rattle.rx_nfa.specs.declared.state.State.TheVariants.{ByteRange, Sparse, Look, Union, Capture, Fail, Match}

-- where a state goes on to without a byte, the preferred one first
abbrev pub epsilon_targets : State → List ℕ
epsilon_targets s = epsilon_successors (λ kind. true) s

-- the kind of look-around that a state asks for
abbrev pub state_asks : State → Option model.Look
state_asks (ByteRange low high next) = None
state_asks (Sparse transitions) = None
state_asks (Look look next) = Some (kind_of look)
state_asks (Union alternates) = None
state_asks (Capture next pattern slot) = None
state_asks Fail = None
state_asks (Match pattern) = None

-- the state that a choice takes
abbrev pub chosen : List State → (q k : ℕ) → ℕ
chosen states q k = slice_index_or (epsilon_targets (state_at states q)) k q

-- these choices lead from state q to state r
abbrev pub WalksTo : List State → (q : ℕ) → List ℕ → (r : ℕ) → Type 0
WalksTo states q [] r = q ≡ r
WalksTo states q (k ∷ ks) r = (k < length (epsilon_targets (state_at states q))) × WalksTo states (chosen states q k) ks r

-- the slots that the states on the walk write, before the one that it comes to
abbrev pub written_on : List State → (q : ℕ) → List ℕ → List ℕ
written_on states q [] = []
written_on states q (k ∷ ks) = option_to_list (state_writes (state_at states q)) ++ written_on states (chosen states q k) ks

-- the kinds of look-around that they ask for
abbrev pub asked_on : List State → (q : ℕ) → List ℕ → List model.Look
asked_on states q [] = []
asked_on states q (k ∷ ks) = option_to_list (state_asks (state_at states q)) ++ asked_on states (chosen states q k) ks

-- the first walk is preferred: where the two first differ, it takes the earlier member
abbrev pub IsPreferred : List ℕ → List ℕ → Type 0
IsPreferred [] ks = ⊥
IsPreferred (j ∷ js) [] = ⊥
IsPreferred (j ∷ js) (k ∷ ks) = (j < k) ⊎ ((j ≡ k) × IsPreferred js ks)

-- two different walks lead from the one state to the other; the empty walk counts
pub record ReachesTwice (states : List State) (entry state : ℕ) : Type 0 where
  pub one : List ℕ
  pub other : List ℕ
  pub differ : one ≢ other
  pub leads : WalksTo states entry one state
  pub leads_too : WalksTo states entry other state
