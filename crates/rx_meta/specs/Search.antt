-- What the searches of a regex answer.
use Rattle.std.specs.Prelude.{ℕ, Bool, List, Option}
use Rattle.rx_model.specs.Search.{Match}
use Rattle.rx_search.specs.Input.{InputValue}
use Rattle.rx_search.specs.Answer as answer
use Rattle.rx_meta.specs.Regex.{RegexValue, Serves, given_needles, kind_in}

-- What a search of the input answers, which is a part of a match: the match itself, its half, or its pattern.
abbrev pub IsAnswer : {T : Type 0} → RegexValue → InputValue → (part : Match → T) → Option T → Type 0
IsAnswer regex v part found = answer.IsAnswer (λ r. Serves regex r) (given_needles regex) (kind_in regex) v part found

-- What the slots hold after a search that gave this answer.
abbrev pub AreSlotsOfAnswer : {T : Type 0} → RegexValue → InputValue → (part : Match → T) → List (Option ℕ) → Option T → Type 0
AreSlotsOfAnswer regex v part slots found = answer.AreSlotsOfAnswer (λ r. Serves regex r) (given_needles regex) (kind_in regex) v part slots found

-- Whether there is a match, which is answered under every kind of captures.
abbrev pub TellsWhether : RegexValue → InputValue → (there : Bool) → Type 0
TellsWhether regex v there = answer.TellsWhether (λ r. Serves regex r) (given_needles regex) v there
