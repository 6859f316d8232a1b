use Rattle.std.proofs.Common.{refl, sym, true≢false}
use Rattle.std.proofs.lemmas.Result.{IfOk-from_err, err_from_is_err_and}
use Rattle.rx_strategies.proofs.RoomLemmas.{fresh-memory, no-more, lent-core, left-still, left-before}
use Rattle.rx_strategies.proofs.cache.Cache.reset_for.Goals as goal

pub returns-clause-fits : goal.returns-clause-fits
returns-clause-fits c = c.in_ok-reset_rooms.ensures.fits

pub returns-clause-memory : goal.returns-clause-memory
returns-clause-memory c = fresh-memory c.reset_rooms.new.rooms _ 0 c.in_ok-reset_rooms.ensures.memory refl

pub returns-clause-empty : goal.returns-clause-empty
returns-clause-empty c = no-more _ c.in_ok-reset_rooms.ensures.empty

pub returns-clause-kept : goal.returns-clause-kept
returns-clause-kept c fits =
    left-still _ _ c.self.view_is _ (c.in_ok-reset_rooms.ensures.kept (lent-core _ _ c.self.view_is c.args.core.now fits)) (λ p f. f)

pub returns-in_err-reset_rooms-clause-fits : goal.returns-in_err-reset_rooms-clause-fits
returns-in_err-reset_rooms-clause-fits c = IfOk-from_err c.from_residual.result _ c.from_residual.ensures.0

pub returns-in_err-reset_rooms-clause-memory : goal.returns-in_err-reset_rooms-clause-memory
returns-in_err-reset_rooms-clause-memory c = IfOk-from_err c.from_residual.result _ c.from_residual.ensures.0

pub returns-in_err-reset_rooms-clause-empty : goal.returns-in_err-reset_rooms-clause-empty
returns-in_err-reset_rooms-clause-empty c = IfOk-from_err c.from_residual.result _ c.from_residual.ensures.0

pub returns-in_err-reset_rooms-clause-reads : goal.returns-in_err-reset_rooms-clause-reads
returns-in_err-reset_rooms-clause-reads c = IfOk-from_err c.from_residual.result _ c.from_residual.ensures.0

pub returns-in_err-reset_rooms-clause-err : goal.returns-in_err-reset_rooms-clause-err
returns-in_err-reset_rooms-clause-err c =
    let p = err_from_is_err_and c.from_residual.result c.from_residual.ensures.1 in
    rw p.1 (left-before _ _ c.self.view_is _ c.in_err-reset_rooms.ensures.err)

pub returns-in_err-reset_rooms-clause-sure : goal.returns-in_err-reset_rooms-clause-sure
returns-in_err-reset_rooms-clause-sure c fits =
    absurd (true≢false (sym (c.in_err-reset_rooms.ensures.sure (lent-core _ _ c.self.view_is c.args.core.now fits))))

pub returns-in_err-reset_rooms-clause-kept : goal.returns-in_err-reset_rooms-clause-kept
returns-in_err-reset_rooms-clause-kept c fits =
    left-still _ _ c.self.view_is _ (c.in_err-reset_rooms.ensures.kept (lent-core _ _ c.self.view_is c.args.core.now fits)) (λ p f. f)
