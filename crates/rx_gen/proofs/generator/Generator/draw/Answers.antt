use Rattle.std.proofs.Common.{◌+◌, ◌*◌, ap}
use Rattle.std.specs.Prelude.{◌/◌, ◌%◌}
use Rattle.rx_gen.specs.Generated.{state_at}
use Rattle.rx_gen.proofs.generator.Generator.draw.Goals as goal

pub returns-clause-state : goal.returns-clause-state
unfolding state_at
returns-clause-state c = λ seed k at. ap (λ x. (x * 1103515245 + 12345) % 2147483648) at

pub returns-clause-value : goal.returns-clause-value
unfolding state_at
returns-clause-value c = λ seed k at. ap (λ x. (x * 1103515245 + 12345) % 2147483648 / 65536) at
