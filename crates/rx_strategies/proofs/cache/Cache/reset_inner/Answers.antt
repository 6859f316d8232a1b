use Rattle.std.proofs.Common.{sym, ap, ◌∙◌, subst, true, true≢false}
use Rattle.std.specs.Prelude.{IsSomeAnd}
use Rattle.std.proofs.lemmas.Result.{IfOk-from_err, err_from_is_err_and}
use Rattle.rx_strategy.specs.Cache as lower
use Rattle.rx_strategy.specs.Prefix.{PrefixValue, FitsPrefix, Supplies}
use Rattle.rx_strategy.specs.declared.strategy.Strategy.{Strategy}
use Rattle.rx_strategies.specs.Cache.{FitsInner}
use Rattle.rx_strategies.proofs.CacheLemmas.{empty-states, none-read}
use Rattle.rx_strategies.proofs.RoomLemmas.{fresh-memory, lent-core, lent-prefix, left-still, left-before, same-cache}
use Rattle.rx_strategies.proofs.cache.Cache.reset_inner.Goals as goal
use Rattle.rx_strategies.proofs.cache.Cache.reset_inner.Goals.{After-prefix, After-core}

-- what the cache held before serves the core and the prefix
core-before : (c : After-core) → FitsInner c.args.inner.now c.args.self.now → IsSomeAnd c.self.inside.rooms (lower.Fits c.core.result.now)
core-before c fits =
    subst (λ (k : Strategy). IsSomeAnd c.self.inside.rooms (lower.Fits k)) (sym c.core.ensures) (lent-core _ _ c.self.view_is c.args.inner.now.core fits.core)

prefix-before : (c : After-prefix) → FitsInner c.args.inner.now c.args.self.now → FitsPrefix c.prefix.result.now c.self.inside.prefix
prefix-before c fits =
    subst (λ (p : PrefixValue). FitsPrefix p c.self.inside.prefix) (sym c.prefix.ensures) (lent-prefix _ _ c.self.view_is c.args.inner.now fits)

pub returns-in-Ok-clause-fits : goal.returns-in-Ok-clause-fits
returns-in-Ok-clause-fits c = record {
  core = subst (λ (k : Strategy). IsSomeAnd c.reset_rooms.new.rooms (lower.Fits k)) c.core.ensures c.in-Ok.ensures.fits;
  prefix =
      c.renew.ensures.fits c.args.inner.now.prefix
      (subst (λ (p : PrefixValue). Supplies p c.self.inside.prefix c.in_ok-missing.missing) c.prefix.ensures c.in_ok-missing.ensures.supplies);
}

pub returns-in-Ok-clause-memory : goal.returns-in-Ok-clause-memory
returns-in-Ok-clause-memory c =
    fresh-memory c.reset_rooms.new.rooms _ _ (c.in-Ok.ensures.memory ∙ ap lower.accounted_for c.core.ensures)
    (none-read c.renew.new.self (c.renew.ensures.empty c.in_ok-missing.ensures.blank))

pub returns-in-Ok-clause-empty : goal.returns-in-Ok-clause-empty
returns-in-Ok-clause-empty c =
    empty-states (record { rooms = c.reset_rooms.new.rooms; prefix = c.renew.new.self; in_use = true; reads_prefix = true }) c.in-Ok.ensures.empty
    (none-read c.renew.new.self (c.renew.ensures.empty c.in_ok-missing.ensures.blank))

pub returns-in-Ok-clause-kept : goal.returns-in-Ok-clause-kept
returns-in-Ok-clause-kept c fits =
    left-still _ _ c.self.view_is _ (c.in-Ok.ensures.kept (core-before (goal.at.returns-in-Ok-clause-kept c).After-core fits))
    (c.renew.ensures.kept (c.in_ok-missing.ensures.none (prefix-before (goal.at.returns-in-Ok-clause-kept c).After-prefix fits)))

pub returns-in-Err-clause-err : goal.returns-in-Err-clause-err
returns-in-Err-clause-err c = left-before _ _ c.self.view_is _ c.in-Err.ensures.err

pub returns-in-Err-clause-sure : goal.returns-in-Err-clause-sure
returns-in-Err-clause-sure c fits = c.in-Err.ensures.sure (core-before (goal.at.returns-in-Err-clause-sure c).After-core fits)

pub returns-in-Err-clause-kept : goal.returns-in-Err-clause-kept
returns-in-Err-clause-kept c fits =
    left-still _ _ c.self.view_is _ (c.in-Err.ensures.kept (core-before (goal.at.returns-in-Err-clause-kept c).After-core fits)) (λ p f. f)

pub returns-in_err-missing-clause-fits : goal.returns-in_err-missing-clause-fits
returns-in_err-missing-clause-fits c = IfOk-from_err c.from_residual.result _ c.from_residual.ensures.0

pub returns-in_err-missing-clause-memory : goal.returns-in_err-missing-clause-memory
returns-in_err-missing-clause-memory c = IfOk-from_err c.from_residual.result _ c.from_residual.ensures.0

pub returns-in_err-missing-clause-empty : goal.returns-in_err-missing-clause-empty
returns-in_err-missing-clause-empty c = IfOk-from_err c.from_residual.result _ c.from_residual.ensures.0

pub returns-in_err-missing-clause-reads : goal.returns-in_err-missing-clause-reads
returns-in_err-missing-clause-reads c = IfOk-from_err c.from_residual.result _ c.from_residual.ensures.0

pub returns-in_err-missing-clause-err : goal.returns-in_err-missing-clause-err
returns-in_err-missing-clause-err c =
    let p = err_from_is_err_and c.from_residual.result c.from_residual.ensures.1 in
    rw p.1 (same-cache c.args.self.now)

pub returns-in_err-missing-clause-sure : goal.returns-in_err-missing-clause-sure
returns-in_err-missing-clause-sure c fits =
    absurd (true≢false (sym (c.in_err-missing.ensures.sure (prefix-before (goal.at.returns-in_err-missing-clause-sure c).After-prefix fits))))

pub returns-in_err-missing-clause-kept : goal.returns-in_err-missing-clause-kept
returns-in_err-missing-clause-kept c fits s f = f
