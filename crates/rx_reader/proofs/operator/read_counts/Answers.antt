use Rattle.std.proofs.Math.Nat.{le_trans, lt_of_le_of_lt}
use Rattle.std.proofs.Common.{sym, subst}
use Rattle.std.proofs.lemmas.Result.{err_from_is_err_and, IfOk-from_err, on_ok_weaker}
use Rattle.rx_reader.specs.Input.{place, Reads}
use Rattle.rx_reader.specs.Counts.{read_number, max_after}
use Rattle.rx_reader.proofs.lemmas.places.ReadsLemmas.{refuses_from, refuses}
use Rattle.rx_reader.proofs.lemmas.tokens.PartLemmas.{counts_refused, counts_max_refused, counts_closed}
use Rattle.rx_reader.proofs.operator.read_counts.Goals as goal

pub returns-in_err-min-clause-value : goal.returns-in_err-min-clause-value
returns-in_err-min-clause-value c =
    let e = err_from_is_err_and c.from_residual.result c.from_residual.ensures.1 in
    let p = place c.args.cursor.now in
    let begun = place c.bump.new.self in
    rw (e.1, e.2) (refuses_from _ _ (λ x is.
    let stops = refuses _ (read_number p c.args.flags begun) (c.in_err-min.ensures.value p c.at-start.ensures) x is in
    counts_refused p begun c.args.flags x c.bump.ensures.value stops))

pub returns-in_err-max-clause-value : goal.returns-in_err-max-clause-value
returns-in_err-max-clause-value c =
    let e = err_from_is_err_and c.from_residual-in_err-max.result c.from_residual-in_err-max.ensures.1 in
    let p = place c.args.cursor.now in
    let begun = place c.bump.new.self in
    let q = place c.read_number.new.cursor in
    let min = c.in_ok-min.min in
    rw (e.1, e.2) (refuses_from _ _ (λ x is.
    let stops = refuses _ (max_after p c.args.flags min q) (c.in_err-max.ensures.value p c.at-start.ensures) x is in
    counts_max_refused p begun q c.args.flags min x c.bump.ensures.value (c.in_ok-min.ensures.value p c.at-start.ensures) stops))

pub returns-clause-value : goal.returns-clause-value
returns-clause-value c =
    let p = place c.args.cursor.now in
    let same = counts_closed p (place c.bump.new.self) (place c.read_number.new.cursor) (place c.max_after.new.cursor) c.args.flags c.in_ok-min.min
    c.in_ok-max.max c.bump.ensures.value
    (c.in_ok-min.ensures.value p c.at-start.ensures) (c.in_ok-max.ensures.value p c.at-start.ensures) in
    subst (λ reading. Reads c.close_counts.result reading (place c.close_counts.new.cursor)) (sym same) (c.close_counts.ensures.value p c.at-start.ensures)

pub returns-in_err-min-clause-in_order : goal.returns-in_err-min-clause-in_order
returns-in_err-min-clause-in_order c = IfOk-from_err c.from_residual.result _ c.from_residual.ensures.0

pub returns-in_err-min-clause-progress : goal.returns-in_err-min-clause-progress
returns-in_err-min-clause-progress c = IfOk-from_err c.from_residual.result _ c.from_residual.ensures.0

pub returns-in_err-min-clause-kept : goal.returns-in_err-min-clause-kept
returns-in_err-min-clause-kept c h = c.read_number.ensures.kept (c.bump.ensures.kept h)

pub returns-in_err-max-clause-in_order : goal.returns-in_err-max-clause-in_order
returns-in_err-max-clause-in_order c = IfOk-from_err c.from_residual-in_err-max.result _ c.from_residual-in_err-max.ensures.0

pub returns-in_err-max-clause-progress : goal.returns-in_err-max-clause-progress
returns-in_err-max-clause-progress c = IfOk-from_err c.from_residual-in_err-max.result _ c.from_residual-in_err-max.ensures.0

pub returns-in_err-max-clause-kept : goal.returns-in_err-max-clause-kept
returns-in_err-max-clause-kept c h = c.max_after.ensures.kept (c.read_number.ensures.kept (c.bump.ensures.kept h))

pub returns-clause-progress : goal.returns-clause-progress
returns-clause-progress c =
    let before = lt_of_le_of_lt (le_trans c.in_ok-max.ensures.progress c.in_ok-min.ensures.progress) (c.bump.ensures.progress c.requires) in
    on_ok_weaker c.close_counts.result (λ le. lt_of_le_of_lt le before) c.close_counts.ensures.progress

pub returns-clause-kept : goal.returns-clause-kept
returns-clause-kept c h = c.close_counts.ensures.kept (c.max_after.ensures.kept (c.read_number.ensures.kept (c.bump.ensures.kept h)))
