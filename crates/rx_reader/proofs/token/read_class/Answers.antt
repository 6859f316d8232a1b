use Rattle.std.proofs.lemmas.Result.{err_from_is_err_and, IfOk-from_err}
use Rattle.rx_reader.specs.Input.{place}
use Rattle.rx_reader.specs.Classes.{class}
use Rattle.rx_reader.proofs.lemmas.places.ReadsLemmas.{refuses_from, refuses}
use Rattle.rx_reader.proofs.lemmas.tokens.TokenLemmas.{piece_between, bracketed-err, bracketed-ok}
use Rattle.rx_reader.proofs.token.read_class.Goals as goal

pub returns-in_err-atom-clause-value : goal.returns-in_err-atom-clause-value
returns-in_err-atom-clause-value c =
    let p = place c.args.cursor.now in
    let e = err_from_is_err_and c.from_residual.result c.from_residual.ensures.1 in
    rw (e.1, e.2) (refuses_from _ _ (λ x is.
    bracketed-err c.args.config c.get_octal.result c.args.flags p x c.get_octal.ensures
    (refuses _ (class c.get_octal.result c.args.flags.ignore_whitespace p) c.in_err-atom.ensures.value x is)))

pub returns-clause-value : goal.returns-clause-value
returns-clause-value c =
    let p = place c.args.cursor.now in
    let q = place c.class.new.cursor in
    bracketed-ok c.args.config c.get_octal.result c.args.flags p c.in_ok-atom.atom q c.piece_from-piece.result c.atom.result c.get_octal.ensures
    c.in_ok-atom.ensures.value
    (piece_between c.at-start.result p q c.piece_from-piece.result c.piece_from-piece.ensures c.at-start.ensures) c.atom.ensures

pub returns-in_err-atom-clause-kind : goal.returns-in_err-atom-clause-kind
returns-in_err-atom-clause-kind c = IfOk-from_err c.from_residual.result _ c.from_residual.ensures.0

pub returns-in_err-atom-clause-progress : goal.returns-in_err-atom-clause-progress
returns-in_err-atom-clause-progress c = IfOk-from_err c.from_residual.result _ c.from_residual.ensures.0
