-- What an NFA does from an entry: a start, or a state that a byte led to. No text is named.
use Rattle.std.specs.Prelude.{◌≡◌, ◌↔◌, ◌≢◌, ℕ, ◌*◌, ◌≤◌, Bool, true, List, length, Some, Contains, slice_get}
use Rattle.rx_nfa.specs.Automaton.{state_at, state_accepts}
use Rattle.rx_nfa.specs.Nfa.{Nfa}
use Rattle.rx_nfa.specs.Ordered.{target}
use Rattle.rx_nfa.specs.Walks.{WalksTo, ReachesTwice, IsPreferred, written_on, asked_on}

-- the first slot of the explicit groups: those of the whole matches come before it
abbrev pub explicit_start : Nfa → ℕ
explicit_start nfa = 2 * length nfa.starts

-- An accept: the walk leads to a state that accepts the pattern.
pub record Accepts (nfa : Nfa) (entry pattern : ℕ) (way : List ℕ) : Type 0 where
  pub state : ℕ
  pub leads : WalksTo nfa.states entry way state
  pub accepts : state_accepts (state_at nfa.states state) ≡ Some pattern

-- A step: the walk leads to a state that goes on to the next one over the byte.
pub record Reads (nfa : Nfa) (entry byte : ℕ) (way : List ℕ) (next : ℕ) : Type 0 where
  pub reader : ℕ
  pub leads : WalksTo nfa.states entry way reader
  pub goes : target (state_at nfa.states reader) byte ≡ Some next

-- a walk to an accept is preferred to this one
pub record IsOutdone (nfa : Nfa) (entry : ℕ) (way : List ℕ) : Type 0 where
  pub pattern : ℕ
  pub other : List ℕ
  pub accepts : Accepts nfa entry pattern other
  pub preferred : IsPreferred other way

-- explicit slots are written on both walks, or on none
abbrev pub WriteAlike : Nfa → (entry : ℕ) → (one other : List ℕ) → Type 0
WriteAlike nfa entry one other =
    (slot : ℕ) → explicit_start nfa ≤ slot → Contains (written_on nfa.states entry one) slot ↔ Contains (written_on nfa.states entry other) slot

-- the same kinds of look-around are asked for on both walks
abbrev pub AskAlike : Nfa → (entry : ℕ) → (one other : List ℕ) → Type 0
AskAlike nfa entry one other =
    (kind : _) → Contains (asked_on nfa.states entry one) kind ↔ Contains (asked_on nfa.states entry other) kind

-- Two steps on the byte differ in target, look-arounds, slots or in whether a match wins.
pub record Conflicts (nfa : Nfa) (entry byte : ℕ) : Type 0 where
  pub one : List ℕ
  pub other : List ℕ
  pub next : ℕ
  pub next_too : ℕ
  pub reads : Reads nfa entry byte one next
  pub reads_too : Reads nfa entry byte other next_too
  pub differ : next ≡ next_too → WriteAlike nfa entry one other → AskAlike nfa entry one other → (IsOutdone nfa entry one ↔ IsOutdone nfa entry other) → ⊥

-- two different patterns are accepted from this entry
pub record AcceptsBoth (nfa : Nfa) (entry first second : ℕ) : Type 0 where
  pub differ : first ≢ second
  pub way : List ℕ
  pub way_too : List ℕ
  pub accepts : Accepts nfa entry first way
  pub accepts_too : Accepts nfa entry second way_too

-- The entries: the start of all patterns, that of each pattern where they are asked for, and each state that a byte leads to
-- from an entry.
pub data IsEntry (nfa : Nfa) (each : Bool) : ℕ → Type 0 where
  common : IsEntry nfa each nfa.start_anchored
  start : (p q : ℕ) → each ≡ true → slice_get nfa.starts p ≡ Some q → IsEntry nfa each q
  after : (entry byte next : ℕ) (way : List ℕ) → IsEntry nfa each entry → Reads nfa entry byte way next → IsEntry nfa each next

-- nothing is ambiguous from this entry
pub record IsClear (nfa : Nfa) (entry : ℕ) : Type 0 where
  pub states : (q : ℕ) → ReachesTwice nfa.states entry q → ⊥
  pub accepts : (first second : ℕ) → AcceptsBoth nfa entry first second → ⊥
  pub steps : (byte : ℕ) → Conflicts nfa entry byte → ⊥
