use Rattle.std.proofs.lemmas.Result.{err_from_is_err_and}
use Rattle.rx_engines.proofs.pikevm.cache.Cache.grow_threads.Goals as goal

pub returns-in_err-even-clause-states : goal.returns-in_err-even-clause-states
returns-in_err-even-clause-states c =
    let p = err_from_is_err_and c.from_residual.result c.from_residual.ensures.1 in
    rw p.1 tt

pub returns-in_err-even-clause-cells : goal.returns-in_err-even-clause-cells
returns-in_err-even-clause-cells c =
    let p = err_from_is_err_and c.from_residual.result c.from_residual.ensures.1 in
    rw p.1 tt

pub returns-in_err-even-clause-rest : goal.returns-in_err-even-clause-rest
returns-in_err-even-clause-rest c =
    let p = err_from_is_err_and c.from_residual.result c.from_residual.ensures.1 in
    rw p.1 tt

pub returns-in_err-even-clause-small : goal.returns-in_err-even-clause-small
returns-in_err-even-clause-small c =
    let p = err_from_is_err_and c.from_residual.result c.from_residual.ensures.1 in
    rw p.1 tt

pub returns-in_err-odd-clause-states : goal.returns-in_err-odd-clause-states
returns-in_err-odd-clause-states c =
    let p = err_from_is_err_and c.from_residual-in_err-odd.result c.from_residual-in_err-odd.ensures.1 in
    rw p.1 tt

pub returns-in_err-odd-clause-cells : goal.returns-in_err-odd-clause-cells
returns-in_err-odd-clause-cells c =
    let p = err_from_is_err_and c.from_residual-in_err-odd.result c.from_residual-in_err-odd.ensures.1 in
    rw p.1 tt

pub returns-in_err-odd-clause-rest : goal.returns-in_err-odd-clause-rest
returns-in_err-odd-clause-rest c =
    let p = err_from_is_err_and c.from_residual-in_err-odd.result c.from_residual-in_err-odd.ensures.1 in
    rw p.1 tt

pub returns-in_err-odd-clause-small : goal.returns-in_err-odd-clause-small
returns-in_err-odd-clause-small c =
    let p = err_from_is_err_and c.from_residual-in_err-odd.result c.from_residual-in_err-odd.ensures.1 in
    rw p.1 tt
