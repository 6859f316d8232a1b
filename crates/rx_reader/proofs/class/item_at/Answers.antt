use Rattle.std.proofs.Math.Nat.{le_trans, lt_of_le_of_lt}
use Rattle.std.proofs.Common.{arith, ◌≡◌, sym, subst}
use Rattle.std.proofs.lemmas.Grind.{common_steps}
use Rattle.std.proofs.lemmas.Result.{err_from_is_err_and, IfOk-from_err, on_ok_weaker}
use Rattle.rx_reader.specs.Input.{place, Reads}
use Rattle.rx_reader.proofs.lemmas.places.ReadsLemmas.{refuses_from, refuses}
use Rattle.rx_reader.specs.Classes.{item_at, posix, class_range, member}
use Rattle.rx_reader.proofs.class.item_at.Goals as goal

pub returns-then-is_set_operator-clause-value : goal.returns-then-is_set_operator-clause-value
unfolding item_at
returns-then-is_set_operator-clause-value c from piece = rw c.refuse_from.ensures (grind (arith, common_steps))

pub returns-then-is_at-clause-value : goal.returns-then-is_at-clause-value
unfolding item_at
returns-then-is_at-clause-value c from piece =
    let p = place c.args.cursor.now in
    let same : item_at c.args.syntax.octal c.args.syntax.skips from p ≡ posix p = grind (arith, common_steps) in
    subst (λ reading. Reads c.posix.result reading (place c.posix.new.cursor)) (sym same) c.posix.ensures.value

pub returns-in_err-low-clause-value : goal.returns-in_err-low-clause-value
unfolding item_at
returns-in_err-low-clause-value c from piece =
    let e = err_from_is_err_and c.from_residual.result c.from_residual.ensures.1 in
    rw (e.1, e.2) (refuses_from _ _ (λ x is.
    let stops = refuses _ (member c.args.syntax.octal (place c.args.cursor.now)) c.in_err-low.ensures.value x is in
    grind (arith, common_steps)))

pub returns-clause-value : goal.returns-clause-value
unfolding item_at
returns-clause-value c from piece =
    let p = place c.args.cursor.now in
    let octal = c.args.syntax.octal in
    let skips = c.args.syntax.skips in
    let same : item_at octal skips from p ≡ class_range octal skips from p c.in_ok-low.low (place c.skip_white.new.self) = grind (arith, common_steps) in
    subst (λ reading. Reads c.class_range.result reading (place c.class_range.new.cursor)) (sym same)
    (c.class_range.ensures.value from p piece c.at-start.ensures)

pub returns-in_err-low-clause-progress : goal.returns-in_err-low-clause-progress
returns-in_err-low-clause-progress c = IfOk-from_err c.from_residual.result _ c.from_residual.ensures.0

pub returns-clause-progress : goal.returns-clause-progress
returns-clause-progress c =
    on_ok_weaker c.class_range.result (λ le. lt_of_le_of_lt (le_trans le c.skip_white.ensures.progress) c.in_ok-low.ensures.progress)
    c.class_range.ensures.progress
