-- What the patterns of a regex read as.
use Rattle.std.specs.Prelude.{ℕ, List, take, Result}
use Rattle.rx_model.specs.Expression.{Expression}
use Rattle.rx_search.specs.Limits.{id_limit}
use Rattle.rx_reader.specs.declared.config.Config.{Config}
use Rattle.rx_syntax.specs.Patterns.{Refusal, all_read}

-- what the patterns read as, of at most as many as identifiers tell apart, or the first refusal
unfoldable pub reading_of : Config → List (List ℕ) → Result (List Expression) Refusal
reading_of syntax texts = all_read syntax (take id_limit texts)
