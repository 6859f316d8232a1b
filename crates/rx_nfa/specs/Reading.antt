-- What a class's block is to do in a priority graph.
use Rattle.std.specs.Prelude.{◌≡◌, ℕ, ◌+◌, ◌≤◌, false, List, Option, Some, None, if◌then◌else◌, nat_le}
use Rattle.rx_model.specs.Text.{Class, member_len}
use Rattle.rx_model.specs.Runs.{Configuration, PriorityGraph, Passed, Trace, found}
use Rattle.rx_nfa.specs.Automaton.{at, read_byte}
use Rattle.rx_nfa.specs.declared.state.Transition.{Transition}

-- In the graph m, state q reads the byte at its place, before the place `end`, by these transitions.
pub record ReadsByte (m : PriorityGraph) (byte : ℕ → ℕ) (end : ℕ) (q : ℕ) (ts : List Transition) : Type 0 where
  pub accepted : (i : ℕ) → m.accepted (at q i) ≡ None
  pub written : (i : ℕ) → m.written (at q i) ≡ None
  pub successors : (i : ℕ) → m.successors (at q i) ≡ read_byte byte end ts i

-- what is found after so many bytes from i on, within `end`
abbrev pub found_after : PriorityGraph → Passed → (end next i : ℕ) → Option ℕ → Option Trace
found_after m p end next i None = None
found_after m p end next i (Some n) = if nat_le (i + n) end then found m p (at next (i + n)) else None

-- nothing was passed at i, nor later
abbrev pub IsClean : Passed → ℕ → Type 0
IsClean p i = (c : Configuration) → i ≤ c.place → p c ≡ false

-- State q reads a member of the class: where one stands, what is found is what is found from `next` after it, and
-- else nothing is. The states between are reached from q alone, later in the text, so that none of them was passed.
abbrev pub ReadsClass : PriorityGraph → List ℕ → (end next q : ℕ) → Class → Type 0
ReadsClass m text end next q members =
    (p : Passed) (i : ℕ) → p (at q i) ≡ false → IsClean p (i + 1) → found m p (at q i) ≡ found_after m p end next i (member_len text members i)
