-- What a search adds to a set of patterns.
use Rattle.std.specs.Prelude.{◌≡◌, ◌⊎◌, ℕ, Bool, true, false, List, length, Option, IsSome, IfSome}
use Rattle.rx_model.specs.Search.{Patterns, Match}
use Rattle.rx_model.specs.Matches.{IsMatch}
use Rattle.rx_search.specs.Input.{InputValue, next_in}
use Rattle.rx_search.specs.PatternSet.{has}
use Rattle.rx_search.specs.Promise.{Premises}
use Rattle.rx_search.specs.declared.anchored.MatchKind.{MatchKind}
use Rattle.rx_search.specs.declared.anchored.MatchKind.TheVariants.{All, LeftmostFirst}

-- the pattern has a match in the input's span
abbrev pub MatchesIn : Patterns → InputValue → (pattern : ℕ) → Type 0
MatchesIn r v p = (m : Match) × IsMatch r v.haystack v.anchor v.end v.start m × (m.trace.pattern ≡ p)

-- nothing is taken out of the set, and it has room for as many patterns as before
pub record KeepsMembers (old new : List Bool) : Type 0 where
  pub room : length new ≡ length old
  pub kept : (p : ℕ) → has old p ≡ true → has new p ≡ true

module _ (r : Patterns) (v : InputValue) (old new : List Bool) where
  -- what is in the set and was not there before has a match
  abbrev pub GainsMatching : Type 0
  GainsMatching = (p : ℕ) → has old p ≡ false → has new p ≡ true → MatchesIn r v p

  -- What is in the set after a search.
  pub record IsFilledFor (kind : MatchKind) : Type 0 where
    -- under `All`, and where not just any match will do, each pattern that has a match
    pub all : kind ≡ All → v.earliest ≡ false → (p : ℕ) → MatchesIn r v p → has new p ≡ true
    -- under leftmost-first, and where not just any match will do, the pattern of the next match
    pub next : kind ≡ LeftmostFirst → v.earliest ≡ false → IfSome (next_in r v) (λ m. has new m.trace.pattern ≡ true)
    -- where there is a match, a pattern that has one
    pub some : IsSome (next_in r v) → (p : ℕ) × (has new p ≡ true) × MatchesIn r v p

module _ (IsFor : Patterns → Type 0) (needles : Option (List (List ℕ))) (v : InputValue) (old new : List Bool) where
  -- whatever searches for some patterns, by these needles if there are needles, adds no other pattern than one that has a match
  abbrev pub AddsMatching : Type 0
  AddsMatching = (r : Patterns) → Premises (IsFor r) needles r v → GainsMatching r v old new

  -- and what is in the set after a search
  abbrev pub IsFilled : (kind : MatchKind) → Type 0
  IsFilled kind = (r : Patterns) → Premises (IsFor r) needles r v → IsFilledFor r v old new kind
