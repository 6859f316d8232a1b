-- The refusals of a build, seen from outside.
use Rattle.std.specs.Prelude.{ℕ, List, ◌++◌, Option, Some, None, codes, decimal}
use Rattle.rx_reader.specs.declared.error.SyntaxError.{SyntaxError}
use Rattle.rx_thompson.specs.declared.error.BuildError.{BuildError as CompilerError}
use Rattle.rx_thompson.specs.declared.error.BuildError.TheVariants.{Syntax as Refused, TooManyPatterns, TooManyGroups, TooManyStates}
use Rattle.rx_thompson.specs.declared.error.BuildError.TheVariants.{ExceededSizeLimit, Memory as NoMemory}
use Rattle.rx_meta.specs.declared.error.BuildError.{BuildError}
use Rattle.rx_meta.specs.declared.error.BuildError.TheVariants.{Syntax, NFA, Memory}

-- the compiler's refusal as that of a build: that of a pattern and want of memory stay what they are
abbrev pub error_of : CompilerError → BuildError
error_of (Refused pid err) = Syntax pid err
error_of (TooManyPatterns given limit) = NFA (TooManyPatterns given limit)
error_of (TooManyGroups given limit) = NFA (TooManyGroups given limit)
error_of (TooManyStates given limit) = NFA (TooManyStates given limit)
error_of (ExceededSizeLimit limit size) = NFA (ExceededSizeLimit limit size)
error_of NoMemory = Memory

abbrev pub pattern_of : BuildError → Option ℕ
pattern_of (Syntax pid err) = Some pid
pattern_of (NFA err) = None
pattern_of Memory = None

abbrev limit_of : CompilerError → Option ℕ
limit_of (Refused pid err) = None
limit_of (TooManyPatterns given limit) = None
limit_of (TooManyGroups given limit) = None
limit_of (TooManyStates given limit) = None
limit_of (ExceededSizeLimit limit size) = Some limit
limit_of NoMemory = None

abbrev pub size_limit_of : BuildError → Option ℕ
size_limit_of (Syntax pid err) = None
size_limit_of (NFA err) = limit_of err
size_limit_of Memory = None

abbrev pub syntax_error_of : BuildError → Option SyntaxError
syntax_error_of (Syntax pid err) = Some err
syntax_error_of (NFA err) = None
syntax_error_of Memory = None

abbrev pub text_of : BuildError → List ℕ
text_of (Syntax pid err) = codes "error parsing pattern " ++ decimal pid
text_of (NFA err) = codes "error building NFA"
text_of Memory = codes "out of memory"
