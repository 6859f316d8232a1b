-- What captures hold after a search.
use Rattle.std.specs.Prelude.{◌≡◌, length, replicate, Option, Some, None, option_map, IfSome, ◌<◌}
use Rattle.rx_model.specs.Search.{Match}
use Rattle.rx_search.specs.Captures.{CapturesValue}
use Rattle.rx_search.specs.Input.{InputValue}
use Rattle.rx_search.specs.Matches.{MatchValue, match_value}
use Rattle.rx_search.specs.Told.{HasSlots, AreWithin, matched_pattern}
use Rattle.rx_meta.specs.Regex.{RegexValue, pattern_count}
use Rattle.rx_meta.specs.Search.{IsAnswer, AreSlotsOfAnswer}

-- the captures with no match
abbrev pub emptied : CapturesValue → CapturesValue
emptied c = record { groups = c.groups; pattern = None; slots = replicate (length c.slots) None }

-- the captures are those of the match: its pattern, and what it leaves in each slot that there is
pub record AreOfMatch (m : Match) (c : CapturesValue) : Type 0 where
  pub pattern : c.pattern ≡ Some m.trace.pattern
  pub slots : HasSlots c.slots m

-- the captures are those of the match, and hold nothing where there is none
abbrev pub AreOf : CapturesValue → Option Match → Type 0
AreOf c None = c ≡ emptied c
AreOf c (Some m) = AreOfMatch m c

-- the groups and the number of slots are as before
pub record HaveRoomOf (old new : CapturesValue) : Type 0 where
  pub groups : new.groups ≡ old.groups
  pub slots : length new.slots ≡ length old.slots

-- What captures hold after a search of the input: the pattern of the match that it answers, and its slots.
pub record AreTold (regex : RegexValue) (v : InputValue) (c : CapturesValue) : Type 0 where
  pub pattern : IsAnswer regex v matched_pattern c.pattern
  pub slots : AreSlotsOfAnswer regex v matched_pattern c.slots c.pattern
  pub within : AreWithin v c.slots
  pub in_range : IfSome c.pattern (λ p. p < pattern_count regex)
  pub none : c.pattern ≡ None → c ≡ emptied c

-- the same, with the match that was found, whose slots they are
pub record IsToldWith (regex : RegexValue) (v : InputValue) (c : CapturesValue) (found : Option MatchValue) : Type 0 where
  pub told : AreTold regex v c
  pub answer : IsAnswer regex v match_value found
  pub slots : AreSlotsOfAnswer regex v match_value c.slots found
  pub pattern : c.pattern ≡ option_map (λ m. m.pattern) found
