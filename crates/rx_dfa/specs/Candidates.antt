-- The search that goes from candidate to candidate.
use Rattle.std.specs.Prelude.{◌≡◌, ℕ, ◌≤◌, ◌<◌, List, Some, None, option_map}
use Rattle.rx_model.specs.Search.{Patterns}
use Rattle.rx_search.specs.Input.{InputValue}
use Rattle.rx_search.specs.Matches.{half_match_value}
use Rattle.rx_search.specs.Needles.{OneBegins}
use Rattle.rx_search.specs.Promise.{Premises}
use Rattle.rx_nfa.specs.Nfa.{IsNfaOf}
use Rattle.rx_nfa.specs.NextMatch.{next_match_of, next_match_in}
use Rattle.rx_dfa.specs.Automaton.{Dfa}
use Rattle.rx_dfa.specs.Course.{IsMetForwards}
use Rattle.rx_dfa.specs.Search.{AreAllOrdered}
use Rattle.rx_dfa.specs.declared.search.stop.Stop.{Stop}
use Rattle.rx_dfa.specs.declared.search.stop.Stop.TheVariants.{Met, Back}

-- no needle lies in the span at a place from `from` on before this one
abbrev pub HasNoneBefore : (needles : List (List ℕ)) → InputValue → (from place : ℕ) → Type 0
HasNoneBefore needles v from place = (i : ℕ) → from ≤ i → i < place → OneBegins v.haystack i v.end needles → ⊥

-- The next match from this place on has the same half as that from the span's start, where the search is for these patterns.
abbrev pub IsAlikeFrom : Dfa → InputValue → (from : ℕ) → Type 0
IsAlikeFrom d v from =
    option_map half_match_value (next_match_in d.nfa v) ≡ option_map half_match_value (next_match_of d.nfa d.nfa.utf8 v.haystack v.anchor v.end from)

-- A search came to this place of the span, and is there as if it began there.
pub record IsBack (d : Dfa) (v : InputValue) (place : ℕ) : Type 0 where
  pub after : v.start < place
  pub within : place ≤ v.end
  pub alike : (r : Patterns) → Premises (IsNfaOf d.nfa r) None r v → IsAlikeFrom d v place

-- where one search stopped
abbrev pub IsStopped : Dfa → InputValue → Stop → Type 0
IsStopped d v (Met r) = IsMetForwards d v r
IsStopped d v (Back place) = IsBack d v place

-- The searches from one place on stand for the whole search, where each match begins with a needle.
pub record StandsBy (d : Dfa) (needles : List (List ℕ)) (v : InputValue) (from : ℕ) : Type 0 where
  pub low : v.start ≤ from
  pub next : (r : Patterns) → Premises (IsNfaOf d.nfa r) (Some needles) r v → AreAllOrdered r → IsAlikeFrom d v from
