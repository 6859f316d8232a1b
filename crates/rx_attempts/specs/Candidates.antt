-- Candidates: the places of a span where a needle lies.
use Rattle.std.specs.Prelude.{◌≡◌, ◌⊎◌, ℕ, ◌+◌, ◌≤◌, ◌<◌, List, length, take, Option, MatchOption, All, Contains}
use Rattle.rx_search.specs.Input.{InputValue}
use Rattle.rx_search.specs.declared.span.Span.{Span}
use Rattle.rx_prefilter.specs.Needles.{LiesAt}
use Rattle.rx_order.specs.Order.{IsOccurrence}

-- each needle has a byte
abbrev pub AreNotEmpty : List (List ℕ) → Type 0
AreNotEmpty needles = All (λ needle. 0 < length needle) needles

-- of needles, in the span of an input
module _ (needles : List (List ℕ)) (v : InputValue) where
  -- one of them lies at the place
  abbrev pub IsCandidate : (place : ℕ) → Type 0
  IsCandidate place = (needle : List ℕ) × Contains needles needle × IsOccurrence v.haystack v.start v.end needle place

  -- One lies there, and is the first of the list among those at its place.
  pub record IsTaken (s : Span) : Type 0 where
    pub inside : v.start ≤ s.start
    pub lies : LiesAt needles (take v.end v.haystack) s

  -- no needle lies at a place from the first one on and before the second
  abbrev pub NoneBetween : (from to : ℕ) → Type 0
  NoneBetween from to = (place : ℕ) → from ≤ place → place < to → IsCandidate place → ⊥

  -- no needle lies at the place or behind it
  abbrev pub NoneFrom : (from : ℕ) → Type 0
  NoneFrom from = (place : ℕ) → from ≤ place → IsCandidate place → ⊥

  -- the candidate from this place on: the first one, if there is one
  abbrev pub IsNextCandidate : (from : ℕ) → Option Span → Type 0
  IsNextCandidate from next = MatchOption next (NoneFrom from) (λ s. IsTaken s × (from ≤ s.start) × NoneBetween from s.start)

  -- This is the last candidate before a place.
  pub record IsLastBefore (s : Span) (place : ℕ) : Type 0 where
    pub taken : IsTaken s
    pub before : s.start < place
    pub last : NoneBetween (s.start + 1) place

  -- the least place that is read backwards again from a candidate at this place: the end of the candidate before it, or 0
  abbrev pub IsLeastRead : (min_start place : ℕ) → Type 0
  IsLeastRead min_start place = ((min_start ≡ 0) × NoneBetween v.start place) ⊎ ((s : Span) × IsLastBefore s place × (min_start ≡ s.end))
