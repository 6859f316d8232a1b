-- From where states are come to.
use Rattle.std.specs.Prelude.{◌≡◌, ℕ, ◌<◌, ◌≤◌, List, length, slice_index_or}
use Rattle.rx_nfa.specs.Automaton.{state_at}
use Rattle.rx_nfa.specs.Prefixes.{LeadsInto}
use Rattle.rx_nfa.specs.declared.prefixes.named.Named.{Named}
use Rattle.rx_nfa.specs.declared.state.State.{State}

-- the least number of a state from which state q is come to, and the greatest
abbrev pub first_in : List Named → ℕ → ℕ
first_in named q = (slice_index_or named q (record { first = 0; last = 0 })).first

abbrev pub last_in : List Named → ℕ → ℕ
last_in named q = (slice_index_or named q (record { first = 0; last = 0 })).last

-- state q may be come to from this number
abbrev pub Spans : List Named → (by q : ℕ) → Type 0
Spans named by q = (first_in named q ≤ by) × (by ≤ last_in named q)

-- no state may be come to from fewer numbers than before
pub record Widens (old new : List Named) : Type 0 where
  pub long : length new ≡ length old
  pub first : (q : ℕ) → first_in new q ≤ first_in old q
  pub last : (q : ℕ) → last_in old q ≤ last_in new q

-- each state may be come to from all those that go on to it
pub record AreNamed (states : List State) (named : List Named) : Type 0 where
  pub long : length named ≡ length states
  pub each : (r : ℕ) → r < length states → LeadsInto (Spans named r) (state_at states r)
