use Rattle.std.proofs.Common.{refl, ap, true, false}
use Rattle.std.proofs.lemmas.Result.{IfOk-from_err}
use Rattle.std.specs.Prelude.{Some}
use Rattle.rx_strategy.specs.Prefix.{prefix_states}
use Rattle.rx_strategies.proofs.CacheLemmas.{empty-states, no_states}
use Rattle.rx_strategies.proofs.RoomLemmas.{fresh-memory}
use Rattle.rx_strategies.proofs.cache.Cache.for_core.Goals as goal

pub returns-clause-fits : goal.returns-clause-fits
returns-clause-fits c = c.in_ok-create_cache.ensures.fits

pub returns-clause-memory : goal.returns-clause-memory
returns-clause-memory c = fresh-memory (Some c.in_ok-create_cache.field-0) _ 0 c.in_ok-create_cache.ensures.memory refl

pub returns-clause-empty : goal.returns-clause-empty
returns-clause-empty c =
    empty-states (record { rooms = Some c.in_ok-create_cache.field-0; prefix = c.absent.result; in_use = true; reads_prefix = false })
    (no_states c.in_ok-create_cache.field-0 c.in_ok-create_cache.ensures.empty) (ap prefix_states c.absent.ensures)

pub returns-in_err-create_cache-clause-fits : goal.returns-in_err-create_cache-clause-fits
returns-in_err-create_cache-clause-fits c = IfOk-from_err c.from_residual.result _ c.from_residual.ensures.0

pub returns-in_err-create_cache-clause-memory : goal.returns-in_err-create_cache-clause-memory
returns-in_err-create_cache-clause-memory c = IfOk-from_err c.from_residual.result _ c.from_residual.ensures.0

pub returns-in_err-create_cache-clause-empty : goal.returns-in_err-create_cache-clause-empty
returns-in_err-create_cache-clause-empty c = IfOk-from_err c.from_residual.result _ c.from_residual.ensures.0

pub returns-in_err-create_cache-clause-reads : goal.returns-in_err-create_cache-clause-reads
returns-in_err-create_cache-clause-reads c = IfOk-from_err c.from_residual.result _ c.from_residual.ensures.0
