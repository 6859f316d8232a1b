use Rattle.std.proofs.Common.{sym, subst, ap, ◌∙◌}
use Rattle.std.specs.Prelude.{Option, IsSomeAnd}
use Rattle.std.proofs.lemmas.Result.{on_ok_weaker, on_err_weaker, IfOk-from_err, err_from_is_err_and}
use Rattle.rx_strategy.specs.Cache.{CacheValue, Fits}
use Rattle.rx_strategies.specs.Cache.{rooms_memory, rooms_states}
use Rattle.rx_strategies.proofs.CacheLemmas.{no_states}
use Rattle.rx_strategies.proofs.RoomLemmas.{there-fits, there-serves, there-before, none-there, same-rooms}
use Rattle.rx_strategies.proofs.cache.reset_rooms.Goals as goal

pub returns-in-Some-clause-fits : goal.returns-in-Some-clause-fits
returns-in-Some-clause-fits c = c.reset.ensures.fits

pub returns-in-Some-clause-memory : goal.returns-in-Some-clause-memory
returns-in-Some-clause-memory c = c.reset.ensures.memory

pub returns-in-Some-clause-empty : goal.returns-in-Some-clause-empty
returns-in-Some-clause-empty c = on_ok_weaker c.reset.result (no_states c.reset.new.self) c.reset.ensures.empty

pub returns-in-Some-clause-err : goal.returns-in-Some-clause-err
returns-in-Some-clause-err c =
    on_err_weaker c.reset.result (there-before c.args.rooms.now c.in-Some.rooms c.reset.new.self c.in-Some.is) c.reset.ensures.err

pub returns-in-Some-clause-sure : goal.returns-in-Some-clause-sure
returns-in-Some-clause-sure c fits =
    c.reset.ensures.sure (there-fits c.args.rooms.now c.in-Some.rooms c.reset.new.self c.in-Some.is c.args.core.now fits)

pub returns-in-Some-clause-kept : goal.returns-in-Some-clause-kept
returns-in-Some-clause-kept c fits =
    there-serves c.args.rooms.now c.in-Some.rooms c.reset.new.self c.in-Some.is
    (c.reset.ensures.kept (there-fits c.args.rooms.now c.in-Some.rooms c.reset.new.self c.in-Some.is c.args.core.now fits))

pub returns-in_err-made-clause-fits : goal.returns-in_err-made-clause-fits
returns-in_err-made-clause-fits c = IfOk-from_err c.from_residual.result _ c.from_residual.ensures.0

pub returns-in_err-made-clause-memory : goal.returns-in_err-made-clause-memory
returns-in_err-made-clause-memory c = IfOk-from_err c.from_residual.result _ c.from_residual.ensures.0

pub returns-in_err-made-clause-empty : goal.returns-in_err-made-clause-empty
returns-in_err-made-clause-empty c = IfOk-from_err c.from_residual.result _ c.from_residual.ensures.0

pub returns-in_err-made-clause-err : goal.returns-in_err-made-clause-err
returns-in_err-made-clause-err c =
    let p = err_from_is_err_and c.from_residual.result c.from_residual.ensures.1 in
    rw p.1 (same-rooms c.args.rooms.now)

pub returns-in_err-made-clause-sure : goal.returns-in_err-made-clause-sure
returns-in_err-made-clause-sure c fits = none-there c.args.rooms.now c.in_default.is c.args.core.now fits

pub returns-in_err-made-clause-kept : goal.returns-in_err-made-clause-kept
returns-in_err-made-clause-kept c fits k f = f

pub returns-clause-fits : goal.returns-clause-fits
returns-clause-fits c =
    subst (λ (o : Option CacheValue). IsSomeAnd o (Fits c.args.core.now)) (sym c.replace.ensures.after) c.in_ok-made.ensures.fits

pub returns-clause-memory : goal.returns-clause-memory
returns-clause-memory c = ap rooms_memory c.replace.ensures.after ∙ c.in_ok-made.ensures.memory

pub returns-clause-empty : goal.returns-clause-empty
returns-clause-empty c = ap rooms_states c.replace.ensures.after ∙ no_states c.in_ok-made.made c.in_ok-made.ensures.empty

pub returns-clause-kept : goal.returns-clause-kept
returns-clause-kept c fits = none-there c.args.rooms.now c.in_default.is c.args.core.now fits
