-- What a search answers, of whatever searches for some patterns, by these needles if there are needles.
use Rattle.std.specs.Prelude.{◌≡◌, ℕ, Bool, List, Option, option_map, is_some, IfSome}
use Rattle.rx_model.specs.Search.{Patterns, Match}
use Rattle.rx_search.specs.Input.{InputValue, next_in}
use Rattle.rx_search.specs.Matches.{MatchValue, HalfMatchValue}
use Rattle.rx_search.specs.Promise.{Premises, Promised}
use Rattle.rx_search.specs.Told.{told_in, IsMatchWith, HasSlots}
use Rattle.rx_search.specs.declared.anchored.MatchKind.{MatchKind}

-- the pattern and the end of a match that was found
abbrev pub half_of : MatchValue → HalfMatchValue
half_of m = record { pattern = m.pattern; offset = m.end }

module _ (IsFor : Patterns → Type 0) (needles : Option (List (List ℕ))) (kind : MatchKind) (v : InputValue) where
  -- What a search of the input answers, which is a part of a match: the match itself, its half, or its pattern.
  pub record IsAnswer {T : Type 0} (part : Match → T) (found : Option T) : Type 0 where
    -- that of the next match
    pub value : (r : Patterns) → Promised (IsFor r) needles kind r v → found ≡ option_map part (next_in r v)
    -- something is found exactly where there is a match and matches are told
    pub exists : (r : Patterns) → Premises (IsFor r) needles r v → is_some found ≡ is_some (told_in r v)
    -- and it is that of a match
    pub is_match : (r : Patterns) → Premises (IsFor r) needles r v → IfSome found (λ answer. IsMatchWith r v (λ m. answer ≡ part m))

  -- What the slots hold after a search that gave this answer.
  pub record AreSlotsOfAnswer {T : Type 0} (part : Match → T) (slots : List (Option ℕ)) (found : Option T) : Type 0 where
    -- those of the next match
    pub value : (r : Patterns) → Promised (IsFor r) needles kind r v → IfSome (next_in r v) (HasSlots slots)
    -- those of the match that was found
    pub is_match : (r : Patterns) → Premises (IsFor r) needles r v → IfSome found (λ answer. IsMatchWith r v (λ m. (answer ≡ part m) × HasSlots slots m))

-- Whether there is a match, which is answered under every kind of captures.
abbrev pub TellsWhether : (Patterns → Type 0) → (needles : Option (List (List ℕ))) → InputValue → Bool → Type 0
TellsWhether IsFor needles v found = (r : Patterns) → Premises (IsFor r) needles r v → found ≡ is_some (next_in r v)
