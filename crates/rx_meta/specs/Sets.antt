-- What the searches of a regex add to a set of patterns.
use Rattle.std.specs.Prelude.{Bool, List}
use Rattle.rx_search.specs.Input.{InputValue}
use Rattle.rx_search.specs.Sets as sets
pub use Rattle.rx_search.specs.Sets.{KeepsMembers}
use Rattle.rx_meta.specs.Regex.{RegexValue, Serves, given_needles, kind_in}

-- no other pattern is added than one that has a match
abbrev pub AddsMatching : RegexValue → InputValue → (old new : List Bool) → Type 0
AddsMatching regex v old new = sets.AddsMatching (λ r. Serves regex r) (given_needles regex) v old new

-- what is in the set after a search
abbrev pub IsFilled : RegexValue → InputValue → (old new : List Bool) → Type 0
IsFilled regex v old new = sets.IsFilled (λ r. Serves regex r) (given_needles regex) v old new (kind_in regex)
