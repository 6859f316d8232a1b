use Rattle.std.proofs.lemmas.List.Elements.{same_from_all_zip}
use Rattle.std.proofs.lemmas.Result.{err_from_is_err_and}
use Rattle.rx_onepass_build.proofs.built.Built.clone.Goals as goal

pub returns-clause-table : goal.returns-clause-table
returns-clause-table c = c.in_ok-table.ensures

pub returns-in_err-table-clause-starts : goal.returns-in_err-table-clause-starts
returns-in_err-table-clause-starts c =
    let p = err_from_is_err_and c.from_residual.result c.from_residual.ensures.1 in
    rw p.1 tt

pub returns-in_err-table-clause-table : goal.returns-in_err-table-clause-table
returns-in_err-table-clause-table c =
    let p = err_from_is_err_and c.from_residual.result c.from_residual.ensures.1 in
    rw p.1 tt

pub returns-in_err-starts-clause-starts : goal.returns-in_err-starts-clause-starts
returns-in_err-starts-clause-starts c =
    let p = err_from_is_err_and c.from_residual-in_err-starts.result c.from_residual-in_err-starts.ensures.1 in
    rw p.1 tt

pub returns-in_err-starts-clause-table : goal.returns-in_err-starts-clause-table
returns-in_err-starts-clause-table c =
    let p = err_from_is_err_and c.from_residual-in_err-starts.result c.from_residual-in_err-starts.ensures.1 in
    rw p.1 tt

pub returns-clause-starts : goal.returns-clause-starts
returns-clause-starts c = same_from_all_zip _ c.args.self.now.starts.items c.in_ok-starts.starts.items c.in_ok-starts.ensures.cases.0 (λ x y same. same)
