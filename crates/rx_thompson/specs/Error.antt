-- Refusals as errors of a build.
use Rattle.rx_nfa.specs.declared.error.BuildError.{BuildError as NfaError}
use Rattle.rx_nfa.specs.declared.error.BuildError.TheVariants.{TooManyPatterns as ManyPatterns, TooManyGroups as ManyGroups, TooManyStates as ManyStates, ExceededSizeLimit as ExceededLimit, Memory as NoMemory}
use Rattle.rx_syntax.specs.declared.patterns.PatternsError.{PatternsError}
use Rattle.rx_syntax.specs.declared.patterns.PatternsError.TheVariants.{Syntax as Refused, Memory as NoMemoryToRead}
use Rattle.rx_thompson.specs.declared.error.BuildError.{BuildError}
use Rattle.rx_thompson.specs.declared.error.BuildError.TheVariants.{Syntax, TooManyPatterns, TooManyGroups, TooManyStates, ExceededSizeLimit, Memory}

-- what is refused of expressions
abbrev pub error_of : NfaError → BuildError
error_of (ManyPatterns given limit) = TooManyPatterns given limit
error_of (ManyGroups given limit) = TooManyGroups given limit
error_of (ManyStates given limit) = TooManyStates given limit
error_of (ExceededLimit limit size) = ExceededSizeLimit limit size
error_of NoMemory = Memory

-- what is refused of patterns
abbrev pub syntax_error_of : PatternsError → BuildError
syntax_error_of (Refused pattern error) = Syntax pattern error
syntax_error_of NoMemoryToRead = Memory
