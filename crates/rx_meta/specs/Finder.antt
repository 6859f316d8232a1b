-- What a finder over a regex is to a searcher.
use Rattle.std.specs.Prelude.{◌≡◌, ℕ, ◌<◌, true, false, List, length, replicate, Option, Some, None, IfSome}
use Rattle.rx_model.specs.Search.{Patterns, Match}
use Rattle.rx_search.specs.Input.{InputValue}
use Rattle.rx_search.specs.Matches.{MatchValue, match_value}
use Rattle.rx_search.specs.Promise.{Premises}
use Rattle.rx_search.specs.Told.{tells, HasSlots, AreWithin}
use Rattle.rx_search.specs.declared.anchored.MatchKind.TheVariants.{LeftmostFirst}
use Rattle.rx_meta.specs.Impossible.{IsKnownImpossible}
use Rattle.rx_meta.specs.Regex.{RegexValue, Serves, given_needles, kind_in, pattern_count}
use Rattle.rx_meta.specs.Search.{IsAnswer, AreSlotsOfAnswer}

-- What a search of this input promises of these patterns is exact: their next match, where matches are told, and else nothing.
pub record IsExactFor (regex : RegexValue) (r : Patterns) (v : InputValue) : Type 0 where
  pub premises : Premises (Serves regex r) (given_needles regex) r v
  -- where matches are told, the kind is leftmost-first, and not just any match will do
  pub next : tells r.which_captures ≡ true → (kind_in regex ≡ LeftmostFirst) × (v.earliest ≡ false)

-- the regex serves some patterns, and what a search of this input promises of them is exact
abbrev pub PromisesFor : RegexValue → InputValue → Type 0
PromisesFor regex v = (r : Patterns) × IsExactFor regex r v

-- a search of this input may want memory: it is not known that no match is possible in its span
abbrev pub MayFail : RegexValue → InputValue → Type 0
MayFail regex v = IsKnownImpossible regex v → ⊥

-- the slots are those of the match, and None in each where there is none
abbrev pub AreSlotsOf : List (Option ℕ) → Option Match → Type 0
AreSlotsOf slots None = slots ≡ replicate (length slots) None
AreSlotsOf slots (Some m) = HasSlots slots m

-- What an answer to a search of this input says, promised or not, and what the slots hold then.
pub record IsAnswerWith (regex : RegexValue) (v : InputValue) (held : List (Option ℕ)) (found : Option MatchValue) : Type 0 where
  pub answer : IsAnswer regex v match_value found
  pub slots : AreSlotsOfAnswer regex v match_value held found
  pub within : AreWithin v held
  pub in_range : IfSome found (λ m. m.pattern < pattern_count regex)
