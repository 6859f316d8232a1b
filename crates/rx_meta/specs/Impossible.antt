-- Where it is known, before a search, that no pattern has a match in an input's span.
use Rattle.rx_search.specs.Input.{InputValue}
use Rattle.rx_strategy.specs.Impossible as strategy
use Rattle.rx_strategies.specs.Strategy.{properties_of}
use Rattle.rx_meta.specs.Regex.{RegexValue}
pub use Rattle.rx_strategy.specs.Impossible.{is_below, is_above, is_always_anchored_start, is_always_anchored_end, begins_too_late, ends_too_early}
pub use Rattle.rx_strategy.specs.Impossible.{is_too_short, is_anchored_start, is_too_long, is_impossible}

-- it is known of the regex that none of its patterns has a match in the input's span
unfoldable pub IsKnownImpossible : RegexValue → InputValue → Type 0
IsKnownImpossible regex v = strategy.IsKnownImpossible (properties_of regex.strategy) v
