-- The mode of a search, as the model has it.
use Rattle.std.specs.Prelude.{ℕ, Option, Some, None}
use Rattle.rx_model.specs.Search.{Anchor, free, anchored, anchored_to}
use Rattle.rx_search.specs.declared.anchored.Anchored.{Anchored}
use Rattle.rx_search.specs.declared.anchored.Anchored.TheVariants.{No, Yes, Pattern}

abbrev pub anchor_of : Anchored → Anchor
anchor_of No = free
anchor_of Yes = anchored
anchor_of (Pattern p) = anchored_to p

-- the one pattern that is searched for, where the search is for one
abbrev pub named_pattern : Anchor → Option ℕ
named_pattern free = None
named_pattern anchored = None
named_pattern (anchored_to p) = Some p
