-- Why an attempt has no answer.
use Rattle.std.specs.Prelude.{◌≡◌, ◌⊎◌, ℕ, ◌<◌, List, None, false, is_some}
use Rattle.rx_model.specs.Meaning.{Means}
use Rattle.rx_model.specs.Search.{Patterns}
use Rattle.rx_search.specs.Input.{InputValue, next_in}
use Rattle.rx_search.specs.Matches.{HalfMatchValue}
use Rattle.rx_search.specs.Promise.{Premises}
use Rattle.rx_search.specs.declared.span.Span.{Span}
use Rattle.rx_nfa.specs.Nfa.{IsNfaOf}
use Rattle.rx_dfa.specs.Automaton.{Dfa}
use Rattle.rx_limited.specs.Limited.{LimitedFails}
use Rattle.rx_limited.specs.Retry.{FailsAt}
use Rattle.rx_limited.specs.Stopat.{stop_forwards}
use Rattle.rx_limited.specs.declared.retry_error.Quadratic.{Quadratic as Met}
use Rattle.rx_limited.specs.declared.retry_error.Quadratic.TheVariants.{Below, AtStart, Candidate}
use Rattle.rx_limited.specs.declared.retry_error.RetryError.{RetryError}
use Rattle.rx_limited.specs.declared.retry_error.RetryError.TheVariants.{Quadratic, Fail, Memory}
use Rattle.rx_order.specs.Order.{IsLeast}
use Rattle.rx_attempts.specs.Inputs.{up_to, from_start}
use Rattle.rx_attempts.specs.Candidates.{IsTaken, IsLeastRead}
use Rattle.rx_attempts.specs.Premises.{IsByInner, NoSuffixBefore, NoInnerBefore}

-- The search backwards from a candidate was not over where it would read again what was read before, or at the span's start with a
-- later start found. It began at this place of the candidate, and no candidate before is confirmed.
pub record IsRefusedBack (rev : Dfa) (needles : List (List ℕ)) (v : InputValue) (place : Span → ℕ) (NoneBefore : ℕ → Type 0) (met : Met) : Type 0 where
  pub now : Span
  pub taken : IsTaken needles v now
  pub min_start : ℕ
  pub least : IsLeastRead needles v min_start now.start
  pub refused : LimitedFails rev (up_to v (place now)) min_start ⊥ ⊥ (Quadratic met)
  pub none : NoneBefore now.start

-- A search forwards for the end of a match stopped at the place without one. It began at the least start that an earlier candidate has.
pub record IsStopped (fwd rev : Dfa) (needles : List (List ℕ)) (v : InputValue) (before stopped : ℕ) : Type 0 where
  pub last : Span
  pub taken : IsTaken needles v last
  pub earlier : last.start < before
  pub start : HalfMatchValue
  pub least : (r : Patterns) (p : IsByInner rev needles r v) → IsLeast v.start (λ k. Means r.terminator v.haystack p.prefix k last.start) start.offset
  pub stop : stopped ≡ stop_forwards fwd (from_start v start)
  pub no_run : (r : Patterns) → Premises (IsNfaOf fwd.nfa r) None r (from_start v start) → is_some (next_in r (from_start v start)) ≡ false

-- A candidate lies before the place where the last search forwards stopped. No candidate before is confirmed.
pub record IsReread (fwd rev : Dfa) (needles : List (List ℕ)) (v : InputValue) (start stopped : ℕ) : Type 0 where
  pub now : Span
  pub taken : IsTaken needles v now
  pub start_is : start ≡ now.start
  pub under : start < stopped
  pub last : IsStopped fwd rev needles v start stopped
  pub none : NoInnerBefore fwd rev needles v start

abbrev pub RereadsBy : (fwd rev : Dfa) → List (List ℕ) → InputValue → Met → Type 0
RereadsBy fwd rev needles v (Below at min_start) = ⊥
RereadsBy fwd rev needles v (AtStart found) = ⊥
RereadsBy fwd rev needles v (Candidate start stopped) = IsReread fwd rev needles v start stopped

-- Why an attempt by a suffix has no answer: what was met; or one of the automata failed, or wants memory.
abbrev pub SuffixFails : (fwd rev : Dfa) → List (List ℕ) → InputValue → (gives_up wants rev_gives_up rev_wants : Type 0) → RetryError → Type 0
SuffixFails fwd rev needles v gives_up wants rev_gives_up rev_wants (Quadratic met) =
    IsRefusedBack rev needles v (λ s. s.end) (NoSuffixBefore rev needles v) met
SuffixFails fwd rev needles v gives_up wants rev_gives_up rev_wants (Fail offset) =
    FailsAt fwd.nfa v gives_up wants offset ⊎ FailsAt rev.nfa v rev_gives_up rev_wants offset
SuffixFails fwd rev needles v gives_up wants rev_gives_up rev_wants Memory = wants ⊎ rev_wants

-- .. and one by literals within
abbrev pub InnerFails : (fwd rev : Dfa) → List (List ℕ) → InputValue → (gives_up wants rev_gives_up rev_wants : Type 0) → RetryError → Type 0
InnerFails fwd rev needles v gives_up wants rev_gives_up rev_wants (Quadratic met) =
    IsRefusedBack rev needles v (λ s. s.start) (NoInnerBefore fwd rev needles v) met ⊎ RereadsBy fwd rev needles v met
InnerFails fwd rev needles v gives_up wants rev_gives_up rev_wants (Fail offset) =
    FailsAt fwd.nfa v gives_up wants offset ⊎ FailsAt rev.nfa v rev_gives_up rev_wants offset
InnerFails fwd rev needles v gives_up wants rev_gives_up rev_wants Memory = wants ⊎ rev_wants
