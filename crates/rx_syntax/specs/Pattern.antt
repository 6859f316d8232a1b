-- What a pattern reads as.
use Rattle.std.specs.Prelude.{ℕ, List, Result}
use Rattle.rx_model.specs.Expression.{Expression}
use Rattle.rx_reader.specs.Reading.{◌>>=◌}
use Rattle.rx_reader.specs.Grammar.{read}
use Rattle.rx_reader.specs.declared.config.Config.{Config}
use Rattle.rx_reader.specs.declared.error.SyntaxError.{SyntaxError}
use Rattle.rx_syntax.specs.Translation.{translated}

-- the expression of a pattern of these characters, or the first refusal: of its reading, and else of its
-- translation
unfoldable pub reads : Config → List ℕ → Result Expression SyntaxError
reads config text = read config text >>= translated config
