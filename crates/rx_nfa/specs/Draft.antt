-- An NFA in the making.
use Rattle.std.specs.Prelude.{◌≡◌, ℕ, suc, ◌<◌, ◌≤◌, List, [], ◌∷◌, ◌++◌, length, All, Option, Some, slice_set}
use Rattle.rx_search.specs.Limits.{id_limit}
use Rattle.rx_nfa.specs.Automaton.{state_at, state_accepts, AcceptsOnce, NamesBelow, IsWithin}
use Rattle.rx_nfa.specs.Row.{HasSortedTransitions}
use Rattle.rx_nfa.specs.Slots.{WritesOwnSlots}
use Rattle.rx_nfa.specs.declared.state.State.{State}
use Rattle.rx_nfa.specs.declared.state.State.TheVariants.{Match}

pub record Draft : Type 0 where
  pub states : List State
  -- the groups of each pattern, by their names, and how many of the first slots may be written
  pub groups : List (List (Option (List ℕ)))
  pub slots : ℕ
  -- no pattern from this one on is accepted yet
  pub accepted : ℕ

-- every state, pattern and slot that is named is there, each slot with its pattern, and transitions are sorted; each pattern is
-- accepted at one state alone
pub record AreInRange (d : Draft) : Type 0 where
  pub names : All (NamesBelow (length d.states)) d.states
  pub within : All (IsWithin (length d.groups) d.slots) d.states
  pub own : All (WritesOwnSlots d.groups) d.states
  pub sorted : All HasSortedTransitions d.states
  pub few : length d.states ≤ id_limit
  pub below : (q p : ℕ) → state_accepts (state_at d.states q) ≡ Some p → p < d.accepted
  pub once : AcceptsOnce d.states

-- one more state
abbrev pub pushed : Draft → State → Draft
pushed d state = record d { states = d.states ++ state ∷ [] }

-- one more state, which accepts this pattern
abbrev pub accepting : Draft → ℕ → Draft
accepting d p = record d { states = d.states ++ Match p ∷ []; accepted = suc p }

-- another state in place of state q
abbrev pub patched : Draft → ℕ → State → Draft
patched d q state = record d { states = slice_set d.states q state }

-- states were added, and none was changed
pub record Continues (old new : Draft) : Type 0 where
  pub groups : new.groups ≡ old.groups
  pub slots : new.slots ≡ old.slots
  pub longer : length old.states ≤ length new.states
  pub kept : (q : ℕ) → q < length old.states → state_at new.states q ≡ state_at old.states q

-- the same, and no pattern more is accepted
pub record Extends (old new : Draft) : Type 0 where
  pub groups : new.groups ≡ old.groups
  pub slots : new.slots ≡ old.slots
  pub longer : length old.states ≤ length new.states
  pub kept : (q : ℕ) → q < length old.states → state_at new.states q ≡ state_at old.states q
  pub accepted : new.accepted ≡ old.accepted
