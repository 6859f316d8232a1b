-- The refusals of patterns, and of an NFA, as errors of a build; their texts.
use Rattle.std.specs.Prelude.{ℕ, List, codes}
use Rattle.rx_onepass_build.specs.Error as of_nfa
use Rattle.rx_onepass_build.specs.declared.build_error.BuildError.{BuildError as TableError}
use Rattle.rx_onepass_build.specs.declared.build_error.BuildError.TheVariants.{UnsupportedLook as Unsupported, TooManyPatterns as ManyPatterns, TooManyStates as ManyStates, ExceededSizeLimit as ExceededLimit, NotOnePass as Ambiguous, Memory as NoMemory}
use Rattle.rx_thompson.specs.declared.error.BuildError.{BuildError as CompilerError}
use Rattle.rx_thompson.specs.declared.error.BuildError.TheVariants.{Syntax, TooManyPatterns as TooMany, TooManyGroups, TooManyStates as States, ExceededSizeLimit as Limit, Memory as NoMemoryToCompile}
use Rattle.rx_onepass.specs.declared.build_error.BuildError.{BuildError}
use Rattle.rx_onepass.specs.declared.build_error.BuildError.TheVariants.{NFA, UnsupportedLook, TooManyPatterns, TooManyStates, ExceededSizeLimit, NotOnePass, Memory}

-- the refusal of an NFA
abbrev pub refusal_of : TableError → BuildError
refusal_of (Unsupported look) = UnsupportedLook look
refusal_of (ManyPatterns limit) = TooManyPatterns limit
refusal_of (ManyStates limit) = TooManyStates limit
refusal_of (ExceededLimit limit size) = ExceededSizeLimit limit size
refusal_of (Ambiguous cause) = NotOnePass cause
refusal_of NoMemory = Memory

-- that of a compiler; want of memory stays that
abbrev pub error_of : CompilerError → BuildError
error_of (Syntax pid err) = NFA (Syntax pid err)
error_of (TooMany given limit) = NFA (TooMany given limit)
error_of (TooManyGroups given limit) = NFA (TooManyGroups given limit)
error_of (States given limit) = NFA (States given limit)
error_of (Limit limit size) = NFA (Limit limit size)
error_of NoMemoryToCompile = Memory

abbrev pub text_of : BuildError → List ℕ
text_of (NFA err) = codes "error building NFA"
text_of (UnsupportedLook look) = of_nfa.text_of (Unsupported look)
text_of (TooManyPatterns limit) = of_nfa.text_of (ManyPatterns limit)
text_of (TooManyStates limit) = of_nfa.text_of (ManyStates limit)
text_of (ExceededSizeLimit limit size) = of_nfa.text_of (ExceededLimit limit size)
text_of (NotOnePass cause) = of_nfa.text_of (Ambiguous cause)
text_of Memory = codes "out of memory"
