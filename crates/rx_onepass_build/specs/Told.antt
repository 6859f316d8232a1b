-- What is told on walks, as the search keeps it.
use Rattle.std.specs.Prelude.{◌≡◌, ◌↔◌, ◌⊎◌, ℕ, ◌+◌, ◌^◌, ◌<◌, List, [], ◌∷◌, Some}
use Rattle.std.specs.Int.{bit_at}
use Rattle.rx_model.specs.Look.{Look, look_number}
use Rattle.rx_nfa.specs.Automaton.{state_writes}
use Rattle.rx_nfa.specs.Nfa.{Nfa}
use Rattle.rx_nfa.specs.declared.state.State.{State}
use Rattle.rx_onepass_table.specs.Entry.{explicit_start}
use Rattle.rx_onepass_table.specs.Rows.{AreSlots, AreLooks}
use Rattle.rx_nfa.specs.Walks.{WalksTo, state_asks}
use Rattle.rx_onepass_table.specs.Words.{few_looks, slot_limit}
use Rattle.rx_onepass_table.specs.declared.epsilons.Epsilons.{Epsilons}
use Rattle.rx_onepass_build.specs.declared.closure.Frame.{Frame}

-- both fit into their bits of a word
pub record IsSmall (e : Epsilons) : Type 0 where
  pub slots : e.slots < 2 ^ 32
  pub looks : e.looks < 2 ^ 10

-- The second is what the first becomes past the state: it tells what the state writes and asks for too.
pub record TellsPast (nfa : Nfa) (s : State) (e later : Epsilons) : Type 0 where
  pub slots : (k : ℕ) → (bit_at later.slots k ≡ 1) ↔ ((bit_at e.slots k ≡ 1) ⊎ (state_writes s ≡ Some (explicit_start nfa + k)))
  pub few_slots : (k : ℕ) → state_writes s ≡ Some (explicit_start nfa + k) → k < slot_limit
  pub looks : (kind : Look) → (bit_at later.looks (look_number kind) ≡ 1) ↔ ((bit_at e.looks (look_number kind) ≡ 1) ⊎ (state_asks s ≡ Some kind))
  pub few : (kind : Look) → state_asks s ≡ Some kind → look_number kind < few_looks
  pub small : IsSmall later

-- A frame stands for a walk from the entry to its state, with what is told on it.
pub record IsWay (nfa : Nfa) (entry : ℕ) (way : List ℕ) (f : Frame) : Type 0 where
  pub leads : WalksTo nfa.states entry way f.state
  pub slots : AreSlots nfa f.epsilons.slots entry way
  pub looks : AreLooks nfa f.epsilons.looks entry way
  pub small : IsSmall f.epsilons

abbrev pub AreWays : Nfa → (entry : ℕ) → List Frame → List (List ℕ) → Type 0
AreWays nfa entry [] [] = Unit {0}
AreWays nfa entry [] (way ∷ ways) = ⊥
AreWays nfa entry (f ∷ fs) [] = ⊥
AreWays nfa entry (f ∷ fs) (way ∷ ways) = IsWay nfa entry way f × AreWays nfa entry fs ways

-- the frames that go on from a state, with what is told past it
abbrev pub frame_at : Epsilons → (state : ℕ) → Frame
frame_at e state = record { state = state; epsilons = e }
