use Rattle.std.proofs.lemmas.Result.{err_from_is_err_and, IfOk-from_err}
use Rattle.rx_reader.specs.Input.{place}
use Rattle.rx_reader.specs.Escapes.{escape}
use Rattle.rx_reader.proofs.lemmas.places.ReadsLemmas.{refuses_from, refuses}
use Rattle.rx_reader.proofs.lemmas.tokens.TokenLemmas.{piece_between, escaped-err, escaped-ok}
use Rattle.rx_reader.proofs.token.read_escape.Goals as goal

pub returns-in_err-escaped-clause-value : goal.returns-in_err-escaped-clause-value
returns-in_err-escaped-clause-value c =
    let p = place c.args.cursor.now in
    let e = err_from_is_err_and c.from_residual.result c.from_residual.ensures.1 in
    rw (e.1, e.2) (refuses_from _ _ (λ x is.
    escaped-err c.args.config c.get_octal.result c.args.flags p x c.get_octal.ensures
    (refuses _ (escape c.get_octal.result p) c.in_err-escaped.ensures.value x is)))

pub returns-clause-value : goal.returns-clause-value
returns-clause-value c =
    let p = place c.args.cursor.now in
    let q = place c.escape.new.cursor in
    escaped-ok c.args.config c.get_octal.result c.args.flags p c.in_ok-escaped.escaped q c.piece_from-piece.result c.escaped_atom.result c.get_octal.ensures
    c.in_ok-escaped.ensures.value
    (piece_between c.at-start.result p q c.piece_from-piece.result c.piece_from-piece.ensures c.at-start.ensures) c.escaped_atom.ensures

pub returns-in_err-escaped-clause-kind : goal.returns-in_err-escaped-clause-kind
returns-in_err-escaped-clause-kind c = IfOk-from_err c.from_residual.result _ c.from_residual.ensures.0

pub returns-in_err-escaped-clause-progress : goal.returns-in_err-escaped-clause-progress
returns-in_err-escaped-clause-progress c = IfOk-from_err c.from_residual.result _ c.from_residual.ensures.0
