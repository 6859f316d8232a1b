-- The search of all that an entry leads to without a byte, depth first and in order of preference.
use Rattle.std.specs.Prelude.{◌≡◌, ◌⊎◌, ℕ, ◌≤◌, List, ◌++◌, length, map, Some, Contains, slice_get}
use Rattle.rx_nfa.specs.Automaton.{state_at}
use Rattle.rx_nfa.specs.Nfa.{Nfa}
use Rattle.rx_onepass_table.specs.Entry.{Accepts, IsOutdone}
use Rattle.rx_nfa.specs.Walks.{WalksTo, IsPreferred, epsilon_targets}
use Rattle.rx_onepass_table.specs.declared.epsilons.Epsilons.{Epsilons}
use Rattle.rx_onepass_build.specs.Order.{Precedes, AreInOrder, GoesOnFrom}
use Rattle.rx_onepass_build.specs.Told.{TellsPast, IsWay, AreWays, frame_at}
use Rattle.rx_onepass_build.specs.declared.closure.Frame.{Frame}

-- The walks that were looked at, and those that are still to be, the preferred one first: each walk is one of the first, or goes
-- on from one of the others. The frames are in the order of these.
pub record IsSearched (nfa : Nfa) (entry : ℕ) (done ways : List (List ℕ)) (frames : List Frame) : Type 0 where
  pub frames_are : AreWays nfa entry frames ways
  pub covered : (way : List ℕ) (q : ℕ) → WalksTo nfa.states entry way q → Contains done way ⊎ GoesOnFrom ways way
  pub before : (one other : List ℕ) → Contains done one → Contains ways other → Precedes one other
  pub in_order : AreInOrder ways

-- The states that were looked at are marked by the number of the row. No two of the walks lead to one.
pub record AreMarked (nfa : Nfa) (entry : ℕ) (done : List (List ℕ)) (row : ℕ) (marks : List ℕ) : Type 0 where
  pub len : length marks ≡ length nfa.states
  pub told : (q : ℕ) → slice_get marks q ≡ Some row → (way : List ℕ) × Contains done way × WalksTo nfa.states entry way q
  pub back : (way : List ℕ) (q : ℕ) → Contains done way → WalksTo nfa.states entry way q → slice_get marks q ≡ Some row
  pub once : (one other : List ℕ) (q : ℕ) → Contains done one → Contains done other → WalksTo nfa.states entry one q
      → WalksTo nfa.states entry other q → one ≡ other
  pub last : (q mark : ℕ) → slice_get marks q ≡ Some mark → mark ≤ row

-- The frame was taken from the stack, and its state was not looked at before. A walk that accepts is preferred to its walk exactly
-- where it was looked at.
pub record IsTaken (nfa : Nfa) (entry : ℕ) (done : List (List ℕ)) (way : List ℕ) (f : Frame) : Type 0 where
  pub is_way : IsWay nfa entry way f
  pub new : (one : List ℕ) → Contains done one → WalksTo nfa.states entry one f.state → ⊥
  pub outdone : IsOutdone nfa entry way → (p : ℕ) × (one : List ℕ) × Contains done one × Accepts nfa entry p one
  pub outdoes : (p : ℕ) (one : List ℕ) → Contains done one → Accepts nfa entry p one → IsPreferred one way

-- The stack holds where the state goes on to, before what it held.
pub record GoesOn (nfa : Nfa) (f : Frame) (old new : List Frame) : Type 0 where
  pub later : Epsilons
  pub tells : TellsPast nfa (state_at nfa.states f.state) f.epsilons later
  pub frames : new ≡ map (frame_at later) (epsilon_targets (state_at nfa.states f.state)) ++ old
