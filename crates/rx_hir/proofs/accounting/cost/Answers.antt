use Rattle.std.proofs.Common.{◌*◌, ap, ◌∙◌}
use Rattle.rx_hir.specs.Cost.{accounted_states, capped, state_size}
use Rattle.rx_hir.proofs.CostLemmas.{capped-product}
use Rattle.rx_hir.proofs.accounting.cost.Goals as goal

pub returns : goal.returns
returns c = c.saturating_mul.ensures ∙ ap (λ n. capped (state_size * n)) c.states-states.ensures ∙ capped-product state_size (accounted_states c.args.hir.now)
