-- Attempts by candidates: for which patterns they are, why they have no answer, and how many steps they take.
use Rattle.std.specs.Prelude.{◌≡◌, ℕ, ◌<◌, false, List, [], ◌∷◌, length, Option, IfSome, IsSomeAnd}
use Rattle.rx_model.specs.Expression.{Expression, AreOrdered}
use Rattle.rx_model.specs.Search.{Patterns}
use Rattle.rx_search.specs.Input.{InputValue}
use Rattle.rx_search.specs.Matches.{MatchValue, match_value}
use Rattle.rx_search.specs.declared.anchored.MatchKind.{MatchKind}
use Rattle.rx_search.specs.declared.anchored.MatchKind.TheVariants.{All}
use Rattle.rx_nfa.specs.Nfa.{HasReverseRuns}
use Rattle.rx_dfa.specs.Automaton.{Dfa}
use Rattle.rx_dfa.specs.LazyCache.{GaveUpOn}
use Rattle.rx_dfa.specs.Search.{IsAnswerFor}
use Rattle.rx_limited.specs.declared.retry_error.RetryError.{RetryError}
use Rattle.rx_order.specs.Order.{SuffixIsNoEarlier, InnerIsNoEarlier}
use Rattle.rx_attempts.specs.Counts.{HasCounted, HasCountedFirst}
use Rattle.rx_attempts.specs.Refusals.{SuffixFails, InnerFails}
use Rattle.rx_strategy.specs.Dfas.{pair_of}
use Rattle.rx_strategy.specs.declared.dfas.Dfas.{Dfas}
use Rattle.rx_strategy.specs.declared.dfas.Dfas.TheVariants.{Absent, Full, Lazy}
use Rattle.rx_strategy.specs.declared.lazies.Lazies.{Lazies}

-- there is one needle, and it has a byte
abbrev pub IsOneNeedle : List (List ℕ) → Type 0
IsOneNeedle needles = (s : List ℕ) × (needles ≡ s ∷ []) × (0 < length s)

-- The patterns are one expression that ends with the needle, before whose first confirmed candidate no match starts.
pub record HasSuffix (needles : List (List ℕ)) (r : Patterns) : Type 0 where
  pub expression : Expression
  pub suffix : List ℕ
  pub is : r.expressions ≡ expression ∷ []
  pub needle : needles ≡ suffix ∷ []
  pub order : SuffixIsNoEarlier expression suffix

-- The patterns are one expression with a prefix and the needles behind it, before whose first confirmed candidate no match starts. The
-- automaton has the runs of the prefix, read backwards, and tells each of them, also one that starts inside a character.
pub record HasInner (rev : Dfa) (needles : List (List ℕ)) (r : Patterns) : Type 0 where
  pub expression : Expression
  pub prefix : Expression
  pub is : r.expressions ≡ expression ∷ []
  pub ordered : AreOrdered expression
  pub order : InnerIsNoEarlier expression prefix needles
  pub prefixes : Patterns
  pub prefix_is : prefixes.expressions ≡ prefix ∷ []
  pub terminator : prefixes.terminator ≡ r.terminator
  pub runs : HasReverseRuns rev.nfa prefixes
  pub kind : rev.kind ≡ All
  pub anywhere : rev.nfa.utf8 ≡ false

-- why an attempt by a suffix has no answer, by these DFAs and what their caches then hold
abbrev pub SuffixFailsIn : Dfas → List (List ℕ) → InputValue → Option Lazies → RetryError → Type 0
SuffixFailsIn Absent needles v lazies error = ⊥
SuffixFailsIn (Full forward backward) needles v lazies error = SuffixFails forward.dfa backward.dfa needles v ⊥ ⊥ ⊥ ⊥ error
SuffixFailsIn (Lazy forward backward) needles v lazies error =
    IsSomeAnd lazies (λ both. SuffixFails forward.dfa backward.dfa needles v (GaveUpOn forward both.forward.rows) (Unit {0})
    (GaveUpOn backward both.backward.rows) (Unit {0}) error)

-- .. and one by literals within, with an automaton that reads the prefix backwards
abbrev pub InnerFailsIn : Dfas → Dfa → List (List ℕ) → InputValue → Option Lazies → (rev_gives_up rev_wants : Type 0) → RetryError → Type 0
InnerFailsIn Absent rev needles v lazies rev_gives_up rev_wants error = ⊥
InnerFailsIn (Full forward backward) rev needles v lazies rev_gives_up rev_wants error =
    InnerFails forward.dfa rev needles v ⊥ ⊥ rev_gives_up rev_wants error
InnerFailsIn (Lazy forward backward) rev needles v lazies rev_gives_up rev_wants error =
    IsSomeAnd lazies (λ both. InnerFails forward.dfa rev needles v (GaveUpOn forward both.forward.rows) (Unit {0}) rev_gives_up rev_wants error)

-- so many steps an answer takes
abbrev pub HasCountedSuffix : Dfas → List (List ℕ) → InputValue → (old new : ℕ) → Option MatchValue → Type 0
HasCountedSuffix dfas needles v old new found = IfSome (pair_of dfas) (λ both. HasCountedFirst both.0 both.1 needles v (λ s. s.end) old new found)

abbrev pub HasCountedInner : Dfas → Dfa → List (List ℕ) → InputValue → (old new : ℕ) → Option MatchValue → Type 0
HasCountedInner dfas rev needles v old new found = IfSome (pair_of dfas) (λ both. HasCounted both.0 rev needles v (λ s. s.start) old new found)

-- what searches is for the patterns, and this is what it answers of them
abbrev pub IsToldBy : (IsFor : Type 0) → MatchKind → Patterns → InputValue → Option MatchValue → Type 0
IsToldBy IsFor kind r v found = IsFor × IsAnswerFor kind r v match_value found
