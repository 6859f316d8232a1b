use Rattle.std.proofs.lemmas.Result.{err_from_is_err_and, IfOk-from_err}
use Rattle.rx_reader.specs.Input.{place}
use Rattle.rx_reader.specs.Openings.{opening}
use Rattle.rx_reader.proofs.lemmas.places.ReadsLemmas.{refuses_from, refuses}
use Rattle.rx_reader.proofs.lemmas.tokens.TokenLemmas.{opens-err, opens-ok}
use Rattle.rx_reader.proofs.token.read_opens.Goals as goal

pub returns-in_err-opening-clause-value : goal.returns-in_err-opening-clause-value
returns-in_err-opening-clause-value c =
    let p = place c.args.cursor.now in
    let e = err_from_is_err_and c.from_residual.result c.from_residual.ensures.1 in
    rw (e.1, e.2) (refuses_from _ _ (λ x is.
    opens-err c.args.flags p x (refuses _ (opening c.args.flags p) c.in_err-opening.ensures.value x is)))

pub returns-clause-value : goal.returns-clause-value
returns-clause-value c =
    opens-ok c.args.flags (place c.args.cursor.now) c.in_ok-opening.opening (place c.read_opening.new.cursor) c.opened.result c.in_ok-opening.ensures.value
    c.opened.ensures.value

pub returns-in_err-opening-clause-kind : goal.returns-in_err-opening-clause-kind
returns-in_err-opening-clause-kind c = IfOk-from_err c.from_residual.result _ c.from_residual.ensures.0

pub returns-in_err-opening-clause-progress : goal.returns-in_err-opening-clause-progress
returns-in_err-opening-clause-progress c = IfOk-from_err c.from_residual.result _ c.from_residual.ensures.0
