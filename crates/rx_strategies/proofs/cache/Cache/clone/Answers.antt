use Rattle.std.proofs.Common.{ap}
use Rattle.std.proofs.lemmas.Result.{IfOk-from_err}
use Rattle.rx_strategies.specs.Cache.{CacheValue}
use Rattle.rx_strategies.proofs.CacheLemmas.{empty-states, none-read}
use Rattle.rx_strategies.proofs.RoomLemmas.{left-still, left-fixed}
use Rattle.rx_strategies.proofs.cache.Cache.clone.Goals as goal

pub returns-in-Ok-clause-fits : goal.returns-in-Ok-clause-fits
returns-in-Ok-clause-fits c = left-still _ _ c.self.view_is _ c.in-Ok.ensures.fits c.in_ok-prefix.ensures.fits

pub returns-in-Ok-clause-fixed : goal.returns-in-Ok-clause-fixed
returns-in-Ok-clause-fixed c = left-fixed _ _ c.self.view_is c.in-Ok.rooms c.in-Ok.ensures.fixed c.in_ok-prefix.prefix

pub returns-in-Ok-clause-empty : goal.returns-in-Ok-clause-empty
returns-in-Ok-clause-empty c =
    let prefix = c.in_ok-prefix.prefix in
    empty-states (record { rooms = c.in-Ok.rooms; prefix = prefix; in_use = c.self.inside.in_use; reads_prefix = c.self.inside.reads_prefix })
    c.in-Ok.ensures.empty (none-read prefix c.in_ok-prefix.ensures.empty)

pub returns-in-Ok-clause-reads : goal.returns-in-Ok-clause-reads
returns-in-Ok-clause-reads c = ap (λ (cache : CacheValue). cache.reads_prefix) c.self.view_is

pub returns-in_err-prefix-clause-fits : goal.returns-in_err-prefix-clause-fits
returns-in_err-prefix-clause-fits c = IfOk-from_err c.from_residual.result _ c.from_residual.ensures.0

pub returns-in_err-prefix-clause-fixed : goal.returns-in_err-prefix-clause-fixed
returns-in_err-prefix-clause-fixed c = IfOk-from_err c.from_residual.result _ c.from_residual.ensures.0

pub returns-in_err-prefix-clause-empty : goal.returns-in_err-prefix-clause-empty
returns-in_err-prefix-clause-empty c = IfOk-from_err c.from_residual.result _ c.from_residual.ensures.0

pub returns-in_err-prefix-clause-reads : goal.returns-in_err-prefix-clause-reads
returns-in_err-prefix-clause-reads c = IfOk-from_err c.from_residual.result _ c.from_residual.ensures.0
