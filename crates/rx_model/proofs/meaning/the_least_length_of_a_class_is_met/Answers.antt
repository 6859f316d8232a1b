use Rattle.rx_model.proofs.lemmas.meaning.LengthLemmas.{scalars-met, scalars-none, bytes-met, bytes-none}
use Rattle.rx_model.proofs.meaning.the_least_length_of_a_class_is_met.Goals as goal

pub returns-clause-scalar : goal.returns-clause-scalar
returns-clause-scalar c = λ ranges n e. scalars-met ranges n e

pub returns-clause-no_scalar : goal.returns-clause-no_scalar
returns-clause-no_scalar c = λ ranges e d s. scalars-none ranges e d s

pub returns-clause-byte : goal.returns-clause-byte
returns-clause-byte c = λ ranges n e. bytes-met ranges n e

pub returns-clause-no_byte : goal.returns-clause-no_byte
returns-clause-no_byte c = λ ranges e b. bytes-none ranges e b
