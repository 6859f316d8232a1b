-- Why states are made in vain, as the error of a build.
use Rattle.rx_onepass_build.specs.declared.stop.Stop.{Stop}
use Rattle.rx_onepass_build.specs.declared.stop.Stop.TheVariants.{State, Match, Transition, TooManyStates, ExceededSizeLimit, Memory}
use Rattle.rx_onepass_build.specs.declared.build_error.NotOnePass.TheVariants.{State as Twice, Match as Matches, Transition as Differs}
use Rattle.rx_onepass_build.specs.declared.build_error.BuildError.{BuildError}
use Rattle.rx_onepass_build.specs.declared.build_error.BuildError.TheVariants.{TooManyStates as ManyStates, ExceededSizeLimit as ExceededLimit, NotOnePass as Ambiguous, Memory as NoMemory}

abbrev pub error_of : Stop → BuildError
error_of (State state) = Ambiguous (Twice state)
error_of (Match first second) = Ambiguous (Matches first second)
error_of (Transition state byte) = Ambiguous (Differs state byte)
error_of (TooManyStates limit) = ManyStates limit
error_of (ExceededSizeLimit limit size) = ExceededLimit limit size
error_of Memory = NoMemory
