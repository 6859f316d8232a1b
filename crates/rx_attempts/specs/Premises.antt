-- What an attempt is promised, so that it answers the next match.
use Rattle.std.specs.Prelude.{◌≡◌, ℕ, ◌<◌, true, false, List, [], ◌∷◌}
use Rattle.rx_model.specs.Expression.{Expression, AreOrdered}
use Rattle.rx_model.specs.Search.{Patterns}
use Rattle.rx_model.specs.Utf8.{MeansUtf8}
use Rattle.rx_search.specs.Input.{InputValue}
use Rattle.rx_search.specs.declared.anchored.MatchKind.TheVariants.{All}
use Rattle.rx_nfa.specs.Nfa.{HasReverseRuns, IsNfaOf}
use Rattle.rx_dfa.specs.Automaton.{Dfa}
use Rattle.rx_dfa.specs.Search.{TellsStarts}
use Rattle.rx_order.specs.Order.{SuffixIsNoEarlier, InnerIsNoEarlier, IsConfirmedSuffix, IsConfirmedInner}

-- The patterns are one expression with a suffix, before whose first confirmed candidate no match starts. The automaton tells where
-- its matches start; where none may start inside a character, all that it means is UTF-8.
pub record IsBySuffix (rev : Dfa) (needles : List (List ℕ)) (r : Patterns) (v : InputValue) : Type 0 where
  pub expression : Expression
  pub suffix : List ℕ
  pub is : r.expressions ≡ expression ∷ []
  pub needle : needles ≡ suffix ∷ []
  pub order : SuffixIsNoEarlier expression suffix
  pub starts : TellsStarts rev r
  pub utf8 : r.utf8_empty ≡ true → MeansUtf8 r v.haystack

-- The patterns are one expression with a prefix and the needles behind it, before whose first confirmed candidate no match starts.
-- The automaton has the runs of the prefix, read backwards, and tells each of them, also one that starts inside a character.
pub record IsByInner (rev : Dfa) (needles : List (List ℕ)) (r : Patterns) (v : InputValue) : Type 0 where
  pub expression : Expression
  pub prefix : Expression
  pub is : r.expressions ≡ expression ∷ []
  pub ordered : AreOrdered expression
  pub order : InnerIsNoEarlier expression prefix needles
  pub prefixes : Patterns
  pub prefix_is : prefixes.expressions ≡ prefix ∷ []
  pub terminator : prefixes.terminator ≡ r.terminator
  pub runs : HasReverseRuns rev.nfa prefixes
  pub kind : rev.kind ≡ All
  pub anywhere : rev.nfa.utf8 ≡ false
  pub utf8 : r.utf8_empty ≡ true → MeansUtf8 r v.haystack

-- the candidates of the input's span that are confirmed, with their starts
abbrev pub IsSuffixOf : {rev : Dfa} {needles : List (List ℕ)} {r : Patterns} {v : InputValue} → IsBySuffix rev needles r v → (c i : ℕ) → Type 0
IsSuffixOf {r = r} {v = v} p c i = IsConfirmedSuffix r.terminator v.haystack v.start v.end p.expression p.suffix c i

abbrev pub IsInnerOf : {rev : Dfa} {needles : List (List ℕ)} {r : Patterns} {v : InputValue} → IsByInner rev needles r v → (c i : ℕ) → Type 0
IsInnerOf {needles = needles} {r = r} {v = v} p c i = IsConfirmedInner r.terminator v.haystack v.start v.end p.prefix p.expression needles c i

-- no candidate before the place is confirmed
abbrev pub NoSuffixBefore : (rev : Dfa) → List (List ℕ) → InputValue → (place : ℕ) → Type 0
NoSuffixBefore rev needles v place = (r : Patterns) (p : IsBySuffix rev needles r v) (c i : ℕ) → c < place → IsSuffixOf p c i → ⊥

-- .. where the one automaton is of the patterns, and the other of the prefix
abbrev pub NoInnerBefore : (fwd rev : Dfa) → List (List ℕ) → InputValue → (place : ℕ) → Type 0
NoInnerBefore fwd rev needles v place =
    (r : Patterns) → IsNfaOf fwd.nfa r → (p : IsByInner rev needles r v) (c i : ℕ) → c < place → IsInnerOf p c i → ⊥
