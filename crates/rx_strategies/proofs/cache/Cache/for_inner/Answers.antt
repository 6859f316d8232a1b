use Rattle.std.proofs.Common.{◌∙◌, ap, subst, true}
use Rattle.std.proofs.lemmas.Result.{IfOk-from_err}
use Rattle.std.specs.Prelude.{Some}
use Rattle.rx_strategy.specs.Cache as lower
use Rattle.rx_strategy.specs.Prefix.{PrefixValue, FitsPrefix}
use Rattle.rx_strategy.specs.declared.strategy.Strategy.{Strategy}
use Rattle.rx_strategies.proofs.CacheLemmas.{empty-states, no_states, none-read}
use Rattle.rx_strategies.proofs.RoomLemmas.{fresh-memory}
use Rattle.rx_strategies.proofs.cache.Cache.for_inner.Goals as goal

pub returns-in-Ok-clause-fits : goal.returns-in-Ok-clause-fits
returns-in-Ok-clause-fits c = record {
  core = subst (λ (k : Strategy). lower.Fits k c.in-Ok.rooms) c.core.ensures c.in-Ok.ensures.fits;
  prefix = subst (λ (p : PrefixValue). FitsPrefix p c.in_ok-prefix.prefix) c.prefix.ensures c.in_ok-prefix.ensures.fits;
}

pub returns-in-Ok-clause-memory : goal.returns-in-Ok-clause-memory
returns-in-Ok-clause-memory c =
    fresh-memory (Some c.in-Ok.rooms) _ _ (c.in-Ok.ensures.memory ∙ ap lower.accounted_for c.core.ensures)
    (none-read c.in_ok-prefix.prefix c.in_ok-prefix.ensures.empty)

pub returns-in-Ok-clause-empty : goal.returns-in-Ok-clause-empty
returns-in-Ok-clause-empty c =
    empty-states (record { rooms = Some c.in-Ok.rooms; prefix = c.in_ok-prefix.prefix; in_use = true; reads_prefix = true })
    (no_states c.in-Ok.rooms c.in-Ok.ensures.empty) (none-read c.in_ok-prefix.prefix c.in_ok-prefix.ensures.empty)

pub returns-in_err-prefix-clause-fits : goal.returns-in_err-prefix-clause-fits
returns-in_err-prefix-clause-fits c = IfOk-from_err c.from_residual.result _ c.from_residual.ensures.0

pub returns-in_err-prefix-clause-memory : goal.returns-in_err-prefix-clause-memory
returns-in_err-prefix-clause-memory c = IfOk-from_err c.from_residual.result _ c.from_residual.ensures.0

pub returns-in_err-prefix-clause-empty : goal.returns-in_err-prefix-clause-empty
returns-in_err-prefix-clause-empty c = IfOk-from_err c.from_residual.result _ c.from_residual.ensures.0

pub returns-in_err-prefix-clause-reads : goal.returns-in_err-prefix-clause-reads
returns-in_err-prefix-clause-reads c = IfOk-from_err c.from_residual.result _ c.from_residual.ensures.0
