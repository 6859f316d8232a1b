use Rattle.std.proofs.Math.Nat.{le_trans}
use Rattle.std.proofs.Common.{◌≡◌, ◌∙◌, sym, false}
use Rattle.std.proofs.lemmas.Result.{err_from_is_err_and, IfOk-from_err}
use Rattle.rx_reader.specs.Input.{place}
use Rattle.rx_reader.specs.Reading.{is_at}
use Rattle.rx_reader.specs.Counts.{read_number}
use Rattle.rx_reader.proofs.lemmas.places.ReadsLemmas.{refuses_from, refuses}
use Rattle.rx_reader.proofs.lemmas.tokens.PartLemmas.{max_none, max_refused, max_some}
use Rattle.rx_reader.proofs.operator.read_max.Goals as goal

pub returns-then-is_at-clause-value : goal.returns-then-is_at-clause-value
returns-then-is_at-clause-value c from start =
    max_none from (place c.args.cursor.now) (place c.skip_white.new.self) c.args.flags c.skip_white.ensures.value (sym c.is_at.ensures.value ∙ c.if-is_at.true)

pub returns-in_err-number-clause-value : goal.returns-in_err-number-clause-value
returns-in_err-number-clause-value c from start =
    let e = err_from_is_err_and c.from_residual.result c.from_residual.ensures.1 in
    let q = place c.skip_white.new.self in
    let more : is_at "}" q ≡ false = sym c.is_at.ensures.value ∙ c.if-is_at.false in
    rw (e.1, e.2) (refuses_from _ _ (λ x is.
    let stops = refuses _ (read_number from c.args.flags q) (c.in_err-number.ensures.value from start) x is in
    max_refused from (place c.args.cursor.now) q c.args.flags x c.skip_white.ensures.value more stops))

pub returns-clause-value : goal.returns-clause-value
returns-clause-value c from start =
    let q = place c.skip_white.new.self in
    let more : is_at "}" q ≡ false = sym c.is_at.ensures.value ∙ c.if-is_at.false in
    max_some from (place c.args.cursor.now) q (place c.read_number.new.cursor) c.args.flags c.in_ok-number.number c.skip_white.ensures.value more
    (c.in_ok-number.ensures.value from start)

pub returns-in_err-number-clause-progress : goal.returns-in_err-number-clause-progress
returns-in_err-number-clause-progress c = IfOk-from_err c.from_residual.result _ c.from_residual.ensures.0

pub returns-in_err-number-clause-kept : goal.returns-in_err-number-clause-kept
returns-in_err-number-clause-kept c h = c.read_number.ensures.kept (c.skip_white.ensures.kept h)

pub returns-clause-progress : goal.returns-clause-progress
returns-clause-progress c = le_trans c.in_ok-number.ensures.progress c.skip_white.ensures.progress

pub returns-clause-kept : goal.returns-clause-kept
returns-clause-kept c h = c.read_number.ensures.kept (c.skip_white.ensures.kept h)
