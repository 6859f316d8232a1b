-- What the search for the first confirmed candidate of literals within comes to.
use Rattle.std.specs.Prelude.{◌≡◌, ◌⊎◌, ℕ, ◌+◌, ◌-◌, ◌*◌, ◌≤◌, List, Some, None, Result, Ok, Err}
use Rattle.rx_model.specs.Meaning.{Means}
use Rattle.rx_model.specs.Search.{Patterns}
use Rattle.rx_search.specs.Input.{InputValue}
use Rattle.rx_search.specs.Matches.{MatchValue, HalfMatchValue}
use Rattle.rx_search.specs.Promise.{Premises}
use Rattle.rx_search.specs.declared.span.Span.{Span}
use Rattle.rx_nfa.specs.Nfa.{IsNfaOf}
use Rattle.rx_dfa.specs.Automaton.{Dfa}
use Rattle.rx_order.specs.Order.{IsLeast}
use Rattle.rx_attempts.specs.Inputs.{from_start}
use Rattle.rx_attempts.specs.Candidates.{IsTaken, IsLeastRead}
use Rattle.rx_attempts.specs.Premises.{IsByInner, IsInnerOf, NoInnerBefore}
use Rattle.rx_attempts.specs.Refusals.{IsStopped}
use Rattle.rx_attempts.specs.Whole.{IsWhole}

-- a search forwards stopped there, if there was one
abbrev pub HasStopped : (fwd rev : Dfa) → List (List ℕ) → InputValue → (before stopped : ℕ) → Type 0
HasStopped fwd rev needles v before stopped = (stopped ≡ 0) ⊎ IsStopped fwd rev needles v before stopped

-- A candidate, and what those before it leave: none of them is confirmed.
pub record IsTurn (fwd rev : Dfa) (needles : List (List ℕ)) (v : InputValue) (now : Span) (min_start stopped : ℕ) : Type 0 where
  pub taken : IsTaken needles v now
  pub least : IsLeastRead needles v min_start now.start
  pub stop : HasStopped fwd rev needles v now.start stopped
  pub none : NoInnerBefore fwd rev needles v now.start

-- the least start that the prefix has from the candidate
abbrev pub IsPrefixStart : (rev : Dfa) → List (List ℕ) → InputValue → Span → HalfMatchValue → Type 0
IsPrefixStart rev needles v now start =
    (r : Patterns) (p : IsByInner rev needles r v)
    → IsLeast v.start (λ k. Means r.terminator v.haystack p.prefix k now.start) start.offset × (start.pattern ≡ 0)

-- the match of the candidate, which is confirmed
pub record IsMatchAt (fwd rev : Dfa) (needles : List (List ℕ)) (v : InputValue) (now : Span) (m : MatchValue) : Type 0 where
  pub start : HalfMatchValue
  pub least : IsPrefixStart rev needles v now start
  pub whole : (r : Patterns) → Premises (IsNfaOf fwd.nfa r) None r (from_start v start) → IsWhole fwd.kind r v start (Some m)

-- the candidate is not confirmed, and this is where the last search forwards stopped, if there was one
pub record IsPassed (fwd rev : Dfa) (needles : List (List ℕ)) (v : InputValue) (now : Span) (stopped place : ℕ) : Type 0 where
  pub none : (r : Patterns) → IsNfaOf fwd.nfa r → (p : IsByInner rev needles r v) (i : ℕ) → IsInnerOf p now.start i → ⊥
  pub stop : (place ≡ stopped) ⊎ IsStopped fwd rev needles v (now.start + 1) place

abbrev pub IsTried : (fwd rev : Dfa) → List (List ℕ) → InputValue → Span → (stopped : ℕ) → Result MatchValue ℕ → Type 0
IsTried fwd rev needles v now stopped (Ok m) = IsMatchAt fwd rev needles v now m
IsTried fwd rev needles v now stopped (Err place) = IsPassed fwd rev needles v now stopped place

-- the bytes from this place on alone are read backwards, and one before it
abbrev pub ReadsFrom : InputValue → (from min_start : ℕ) → Type 0
ReadsFrom v from min_start = (from ≡ v.start) ⊎ (from ≤ min_start)

-- the steps of a candidate at this place that is not confirmed
abbrev pub TakesFew : InputValue → (at min_start old new place : ℕ) → Type 0
TakesFew v at min_start old new place =
    (from : ℕ) → v.start ≤ from → from ≤ at → ReadsFrom v from min_start → new ≤ old + (at - from) + (place - from) + 4

-- where a search from this place on stands: before the first candidate, or behind this one
abbrev pub IsCourse : List (List ℕ) → InputValue → (from min_start : ℕ) → Type 0
IsCourse needles v from min_start =
    ((from ≡ v.start) × (min_start ≡ 0)) ⊎ ((last : Span) × IsTaken needles v last × (from ≡ last.start + 1) × (min_start ≡ last.end))

-- The search goes on from this place, and no candidate before it is confirmed.
pub record GoesOn (fwd rev : Dfa) (needles : List (List ℕ)) (v : InputValue) (from min_start stopped old new : ℕ) : Type 0 where
  pub low : v.start ≤ from
  pub high : from ≤ v.end
  pub none : NoInnerBefore fwd rev needles v from
  pub course : IsCourse needles v from min_start
  pub stop : HasStopped fwd rev needles v from stopped
  pub stop_high : stopped ≤ v.end
  -- the greater of the two places
  pub reach : ℕ
  pub reach_is : (reach ≡ from) ⊎ (reach ≡ stopped)
  pub from_in : from ≤ reach
  pub stop_in : stopped ≤ reach
  pub steps : new ≤ old + 4 * (from - v.start) + (reach - v.start)
