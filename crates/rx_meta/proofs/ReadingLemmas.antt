-- Of which patterns a regex is built.
use Rattle.std.proofs.Common.{ℕ, List}
use Rattle.std.specs.Prelude.{take, length}
use Rattle.rx_search.specs.Limits.{id_limit}
use Rattle.rx_reader.specs.declared.config.Config.{Config as Grammar}
use Rattle.rx_syntax.specs.Patterns.{all_read}
use Rattle.rx_strategy.specs.Config.{compiler_of}
use Rattle.rx_strategy.specs.declared.config.Config.{Config}
use Rattle.rx_thompson.specs.Build.{IsRefusedAfter}
use Rattle.rx_thompson.specs.declared.error.BuildError.{BuildError as CompilerError}
use Rattle.rx_thompson.specs.declared.error.BuildError.TheVariants.{Syntax as Refused, TooManyPatterns, TooManyGroups, TooManyStates}
use Rattle.rx_thompson.specs.declared.error.BuildError.TheVariants.{ExceededSizeLimit, Memory as NoMemory}
use Rattle.rx_meta.specs.Build.{IsRefusedFor}
use Rattle.rx_meta.specs.Error.{error_of}
use Rattle.rx_meta.specs.Reading.{reading_of}
use Rattle.rx_meta.proofs.BuildLemmas.{few-of}

-- what is refused of the patterns up to the limit is refused of the regex's patterns
pub refused-within : (syntax : Grammar) (c : Config) (texts : List (List ℕ)) (e : CompilerError)
    → IsRefusedAfter (all_read syntax (take id_limit texts)) (compiler_of c) (length texts) e → IsRefusedFor syntax c texts (error_of e)
unfolding reading_of
refused-within syntax c texts (Refused pid err) is = is
refused-within syntax c texts (TooManyPatterns given limit) is = (is.0, is.1, is.2)
refused-within syntax c texts (TooManyGroups given limit) is = (is.0, is.1, (is.2.0, is.2.1.1, is.2.1.2, is.2.1.3))
refused-within syntax c texts (TooManyStates given limit) is = (is.0, is.1, (is.2.0, few-of is.0 is.2.1.0, is.2.1.1, is.2.1.2, is.2.1.3))
refused-within syntax c texts (ExceededSizeLimit limit size) is =
    (is.0, is.1, (is.2.0, few-of is.0 is.2.1.0, is.2.1.1, is.2.1.2, is.2.1.3, is.2.1.4))
refused-within syntax c texts NoMemory is = tt
