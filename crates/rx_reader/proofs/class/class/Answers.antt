use Rattle.std.proofs.Math.Nat.{le_trans, le_of_lt, lt_of_lt_of_le}
use Rattle.std.proofs.Common.{arith, true}
use Rattle.std.proofs.lemmas.Grind.{common_steps}
use Rattle.std.proofs.lemmas.Result.{err_from_is_err_and, IfOk-from_err}
use Rattle.rx_reader.specs.Input.{place}
use Rattle.rx_reader.proofs.lemmas.places.ReadsLemmas.{refuses_from, refuses}
use Rattle.rx_reader.specs.Classes.{class, all_class_items}
use Rattle.rx_reader.proofs.class.class.Goals as goal

pub returns-in_err-items-clause-value : goal.returns-in_err-items-clause-value
unfolding class
returns-in_err-items-clause-value c =
    let e = err_from_is_err_and c.from_residual.result c.from_residual.ensures.1 in
    rw (e.1, e.2) (refuses_from _ _ (λ x is.
    let p = place c.args.cursor.now in
    let stops = refuses _ (all_class_items c.args.syntax.octal c.args.syntax.skips p true (place c.bump_over-negated.new.self))
    (c.in_err-items.ensures.value p c.here-opening.ensures) x is in
    grind (arith, common_steps)))

pub returns-clause-value : goal.returns-clause-value
unfolding class
returns-clause-value c =
    let p = place c.args.cursor.now in
    let found = c.in_ok-items.ensures.value p c.here-opening.ensures in
    grind (arith, common_steps)

pub returns-in_err-items-clause-progress : goal.returns-in_err-items-clause-progress
returns-in_err-items-clause-progress c = IfOk-from_err c.from_residual.result _ c.from_residual.ensures.0

pub returns-clause-progress : goal.returns-clause-progress
returns-clause-progress c =
    let before = le_trans c.skip_white.ensures.progress (le_of_lt (c.bump.ensures.progress c.requires)) in
    lt_of_lt_of_le c.in_ok-items.ensures.progress (le_trans c.bump_over-negated.ensures.progress before)
