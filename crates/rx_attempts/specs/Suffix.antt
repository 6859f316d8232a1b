-- What the search for the first confirmed candidate of a suffix comes to.
use Rattle.std.specs.Prelude.{◌≡◌, ◌⊎◌, ℕ, ◌+◌, ◌-◌, ◌*◌, ◌≤◌, List, Option, Some, None}
use Rattle.rx_model.specs.Search.{Patterns}
use Rattle.rx_search.specs.Input.{InputValue}
use Rattle.rx_search.specs.Matches.{HalfMatchValue}
use Rattle.rx_search.specs.declared.span.Span.{Span}
use Rattle.rx_dfa.specs.Automaton.{Dfa}
use Rattle.rx_limited.specs.Retry.{FailsAt}
use Rattle.rx_limited.specs.declared.retry_error.RetryError.{RetryError}
use Rattle.rx_limited.specs.declared.retry_error.RetryError.TheVariants.{Quadratic, Fail, Memory}
use Rattle.rx_attempts.specs.Candidates.{IsTaken}
use Rattle.rx_attempts.specs.Premises.{IsBySuffix, IsSuffixOf, NoSuffixBefore}
use Rattle.rx_attempts.specs.Refusals.{IsRefusedBack}

-- the start of the first confirmed candidate
pub record IsFirstSuffix (rev : Dfa) (needles : List (List ℕ)) (v : InputValue) (start : HalfMatchValue) : Type 0 where
  pub place : ℕ
  pub confirmed : (r : Patterns) (p : IsBySuffix rev needles r v) → IsSuffixOf p place start.offset × (start.pattern ≡ 0)
  pub none : NoSuffixBefore rev needles v place

-- .. if a candidate is confirmed
abbrev pub FirstSuffix : (rev : Dfa) → List (List ℕ) → InputValue → Option HalfMatchValue → Type 0
FirstSuffix rev needles v None = (place : ℕ) → NoSuffixBefore rev needles v place
FirstSuffix rev needles v (Some start) = IsFirstSuffix rev needles v start

-- why there is no answer
abbrev pub BackFails : (rev : Dfa) → List (List ℕ) → InputValue → (gives_up wants : Type 0) → RetryError → Type 0
BackFails rev needles v gives_up wants (Quadratic met) = IsRefusedBack rev needles v (λ s. s.end) (NoSuffixBefore rev needles v) met
BackFails rev needles v gives_up wants (Fail offset) = FailsAt rev.nfa v gives_up wants offset
BackFails rev needles v gives_up wants Memory = wants

-- before the first candidate
pub record IsFresh (v : InputValue) (from min_start old new : ℕ) : Type 0 where
  pub from_is : from ≡ v.start
  pub min_start_is : min_start ≡ 0
  pub steps : new ≡ old

-- behind this candidate
pub record IsBehind (needles : List (List ℕ)) (v : InputValue) (from min_start old new : ℕ) : Type 0 where
  pub last : Span
  pub taken : IsTaken needles v last
  pub from_is : from ≡ last.start + 1
  pub min_start_is : min_start ≡ last.end
  pub steps : new ≤ old + 3 * (from - v.start) + (last.end - last.start)

-- The search goes on from this place, and no candidate before it is confirmed.
pub record GoesOn (rev : Dfa) (needles : List (List ℕ)) (v : InputValue) (from min_start old new : ℕ) : Type 0 where
  pub low : v.start ≤ from
  pub high : from ≤ v.end
  pub none : NoSuffixBefore rev needles v from
  pub course : IsFresh v from min_start old new ⊎ IsBehind needles v from min_start old new
