-- Attempts from candidate to candidate. Why one has no answer, and how many steps an answer takes, is told of what a regex searches
-- with, so a contract sees it by these definitions alone.
use Rattle.std.specs.Prelude.{◌≡◌, ℕ, ◌+◌, ◌≤◌, ◌<◌, List, [], ◌∷◌, Option}
use Rattle.rx_model.specs.Expression.{Expression}
use Rattle.rx_model.specs.Search.{Patterns}
use Rattle.rx_search.specs.Input.{InputValue}
use Rattle.rx_search.specs.Matches.{MatchValue}
use Rattle.rx_search.specs.declared.span.Span.{Span}
use Rattle.rx_limited.specs.declared.retry_error.Quadratic.{Quadratic as Met}
use Rattle.rx_limited.specs.declared.retry_error.Quadratic.TheVariants.{Below, AtStart, Candidate}
use Rattle.rx_limited.specs.declared.retry_error.RetryError.{RetryError}
use Rattle.rx_limited.specs.declared.retry_error.RetryError.TheVariants.{Quadratic, Fail, Memory}
use Rattle.rx_order.specs.Order.{SuffixIsNoEarlier, InnerIsNoEarlier, IsConfirmedSuffix, IsConfirmedInner}
use Rattle.rx_attempts.specs.Candidates.{IsTaken, IsLeastRead}
use Rattle.rx_strategies.specs.Attempting as strategy
use Rattle.rx_strategies.specs.declared.strategy.Strategy.{Strategy}
use Rattle.rx_strategies.specs.declared.strategy.Strategy.TheVariants.{Pre, Core, ReverseAnchored, ReverseSuffix, ReverseInner}
use Rattle.rx_meta.specs.Cache.{CacheValue}
use Rattle.rx_meta.specs.Regex.{RegexValue}
pub use Rattle.rx_dfa.specs.Search.{IsAnswerFor}

-- why an attempt by a literal that ends each match has no answer, by what the cache then holds
unfoldable pub SuffixFails : RegexValue → InputValue → CacheValue → RetryError → Type 0
SuffixFails regex v cache error = strategy.SuffixFails regex.strategy v cache.rooms error

-- .. and one by literals within each match
unfoldable pub InnerFails : RegexValue → InputValue → CacheValue → RetryError → Type 0
InnerFails regex v cache error = strategy.InnerFails regex.strategy v cache.rooms error

-- What its places are to the input: the bytes from one in the span up to a later one were to be read again; a later start than the
-- span's was found; or a candidate begins before the place where a search forwards stopped.
abbrev pub IsMetIn : InputValue → RetryError → Type 0
IsMetIn v (Quadratic (Below at min_start)) = (v.start ≤ at) × (at < min_start)
IsMetIn v (Quadratic (AtStart found)) = v.start < found.offset
IsMetIn v (Quadratic (Candidate start stopped)) = start < stopped
IsMetIn v (Fail offset) = Unit {0}
IsMetIn v Memory = Unit {0}

-- the literals of its candidates: the one that ends each match, or those within each match
abbrev pub literals_of : Strategy → List (List ℕ)
literals_of (Pre p) = []
literals_of (Core c) = []
literals_of (ReverseAnchored c) = []
literals_of (ReverseSuffix s) = s.needles
literals_of (ReverseInner i) = i.needles

unfoldable pub literals_in : RegexValue → List (List ℕ)
literals_in regex = literals_of regex.strategy

-- What was met is of this candidate, from whose place there was a search backwards: a byte before the last one of those it reads was to be
-- read again, under the end of the candidate before; a start up to the place was found; or the candidate begins before a search stopped.
abbrev pub IsMetAt : List (List ℕ) → InputValue → (now : Span) → (place : ℕ) → Met → Type 0
IsMetAt literals v now place (Below at min_start) = (at + 1 < place) × IsLeastRead literals v min_start now.start
IsMetAt literals v now place (AtStart found) = found.offset ≤ place
IsMetAt literals v now place (Candidate start stopped) = start ≡ now.start

-- What was met is of a candidate in the span, before which none is confirmed.
pub record IsMetFirst (literals : List (List ℕ)) (v : InputValue) (place : Span → ℕ) (IsConfirmed : (c i : ℕ) → Type 0) (met : Met) : Type 0 where
  pub now : Span
  pub candidate : IsTaken literals v now
  pub is_met : IsMetAt literals v now (place now) met
  pub none : (c i : ℕ) → c < now.start → IsConfirmed c i → ⊥

-- The patterns are one expression that ends with the literal, before whose first confirmed candidate no match starts; and what was met is
-- of a candidate before which none is confirmed.
pub record IsMetBySuffix (literals : List (List ℕ)) (r : Patterns) (v : InputValue) (met : Met) : Type 0 where
  pub expression : Expression
  pub suffix : List ℕ
  pub is : r.expressions ≡ expression ∷ []
  pub literal : literals ≡ suffix ∷ []
  pub order : SuffixIsNoEarlier expression suffix
  pub first : IsMetFirst literals v (λ s. s.end) (IsConfirmedSuffix r.terminator v.haystack v.start v.end expression suffix) met

-- .. of one expression with a prefix and the literals behind it
pub record IsMetByInner (literals : List (List ℕ)) (r : Patterns) (v : InputValue) (met : Met) : Type 0 where
  pub expression : Expression
  pub prefix : Expression
  pub is : r.expressions ≡ expression ∷ []
  pub order : InnerIsNoEarlier expression prefix literals
  pub first : IsMetFirst literals v (λ s. s.start) (IsConfirmedInner r.terminator v.haystack v.start v.end prefix expression literals) met

-- so many steps an answer takes
unfoldable pub CountsSuffix : RegexValue → InputValue → (old new : ℕ) → Option MatchValue → Type 0
CountsSuffix regex v old new found = strategy.CountsSuffix regex.strategy v old new found

unfoldable pub CountsInner : RegexValue → InputValue → (old new : ℕ) → Option MatchValue → Type 0
CountsInner regex v old new found = strategy.CountsInner regex.strategy v old new found
