use Rattle.std.proofs.Common.{refl, inr}
use Rattle.std.proofs.lemmas.Result.{err_from_is_err_and}
use Rattle.rx_util.proofs.InterpolationLemmas.{left_by}
use Rattle.rx_util.proofs.interpolate.at_dollar.Goals as goal

pub returns-in_err-append-clause-value : goal.returns-in_err-append-clause-value
returns-in_err-append-clause-value g c = λ piece index appends finds.
    let p = err_from_is_err_and c.from_residual-in_err-append.result c.from_residual-in_err-append.ensures.1 in
    rw p.1 (inr (left_by g.A.FnMut g.N.FnMut g.D.Target.held c.in_err-append.ensures refl refl))

pub returns-in_err-append-2-clause-value : goal.returns-in_err-append-2-clause-value
returns-in_err-append-2-clause-value g c = λ piece index appends finds.
    let p = err_from_is_err_and c.from_residual-in_err-append-2.result c.from_residual-in_err-append-2.ensures.1 in
    rw p.1 (inr (left_by g.A.FnMut g.N.FnMut g.D.Target.held c.in_err-append-2.ensures refl refl))
