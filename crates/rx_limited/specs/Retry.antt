-- Why a search that may stop early has no answer.
use Rattle.std.specs.Prelude.{◌⊎◌, ℕ}
use Rattle.rx_search.specs.Input.{InputValue}
use Rattle.rx_search.specs.declared.match_error.MatchError.{MatchError}
use Rattle.rx_search.specs.declared.match_error.MatchError.TheVariants.{Quit, GaveUp, HaystackTooLong, UnsupportedAnchored, Memory as WantsMemory}
use Rattle.rx_nfa.specs.Nfa.{Nfa}
use Rattle.rx_dfa.specs.Search.{SearchFails}
use Rattle.rx_limited.specs.declared.retry_error.RetryError.{RetryError}
use Rattle.rx_limited.specs.declared.retry_error.RetryError.TheVariants.{Quadratic, Fail, Memory}

-- the error of a search that had this one
abbrev pub retried : MatchError → RetryError
retried (Quit byte offset) = Fail offset
retried (GaveUp offset) = Fail offset
retried (HaystackTooLong len) = Memory
retried (UnsupportedAnchored mode) = Memory
retried WantsMemory = Memory

-- the automaton quit at the byte of this place, or gave up at this place
abbrev pub FailsAt : Nfa → InputValue → (gives_up wants : Type 0) → (offset : ℕ) → Type 0
FailsAt nfa v gives_up wants offset =
    ((byte : ℕ) × SearchFails nfa v gives_up wants (Quit byte offset)) ⊎ SearchFails nfa v gives_up wants (GaveUp offset)

-- the automaton failed: nothing was met that was read before
abbrev pub JustFails : Nfa → InputValue → (gives_up wants : Type 0) → RetryError → Type 0
JustFails nfa v gives_up wants (Quadratic met) = ⊥
JustFails nfa v gives_up wants (Fail offset) = FailsAt nfa v gives_up wants offset
JustFails nfa v gives_up wants Memory = wants
