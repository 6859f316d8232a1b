-- How the bytes that can begin a run are gathered.
use Rattle.std.specs.Prelude.{◌≡◌, ℕ, ◌≤◌, Bool, true, false, List, length, Option, Some, None, slice_index_or}
use Rattle.rx_model.specs.Runs.{Configuration, Passed, IsRun}
use Rattle.rx_nfa.specs.Automaton.{at, automaton, byte_at}
use Rattle.rx_nfa.specs.declared.state.State.{State}

-- the byte, if there is one, is marked
abbrev pub has_byte : List Bool → Option ℕ → Bool
has_byte marked None = false
has_byte marked (Some byte) = slice_index_or marked byte false

-- each byte that was marked still is
pub record Marks (old new : List Bool) : Type 0 where
  pub size : length new ≡ length old
  pub kept : (b : ℕ) → slice_index_or old b false ≡ true → slice_index_or new b false ≡ true

-- each byte from the first to the last is marked
abbrev pub HasRange : List Bool → (low high : ℕ) → Type 0
HasRange marked low high = (b : ℕ) → low ≤ b → b ≤ high → slice_index_or marked b false ≡ true

-- Each run that starts in state q begins with a marked byte: where none stands there is no run, whatever was passed.
abbrev pub BeginMarked : List State → List Bool → (q : ℕ) → Type 0
BeginMarked states marked q =
    (terminator : ℕ) (text : List ℕ) (end i : ℕ) → has_byte marked (byte_at text end i) ≡ false
    → (p : Passed) (run : List Configuration) → IsRun (automaton terminator states text end) p (at q i) run → ⊥
