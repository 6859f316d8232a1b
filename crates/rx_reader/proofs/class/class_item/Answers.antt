use Rattle.std.proofs.Math.Nat.{lt_of_lt_of_le}
use Rattle.std.proofs.Common.{arith}
use Rattle.std.proofs.lemmas.Grind.{common_steps}
use Rattle.std.proofs.lemmas.Result.{err_from_is_err_and, IfOk-from_err}
use Rattle.rx_reader.specs.Input.{place}
use Rattle.rx_reader.proofs.lemmas.places.ReadsLemmas.{refuses_from, refuses}
use Rattle.rx_reader.specs.Classes.{class_item, item_at}
use Rattle.rx_reader.proofs.class.class_item.Goals as goal

pub returns-then-is_at_end-clause-value : goal.returns-then-is_at_end-clause-value
unfolding class_item
returns-then-is_at_end-clause-value c from piece = rw c.refuse.ensures (grind (arith, common_steps))

pub returns-then-comes_first-clause-value : goal.returns-then-comes_first-clause-value
unfolding class_item
returns-then-comes_first-clause-value c from piece = rw (c.item_of.ensures, c.plain.ensures) (grind (arith, common_steps))

pub returns-then-is_at-clause-value : goal.returns-then-is_at-clause-value
unfolding class_item
returns-then-is_at-clause-value c from piece = grind (arith, common_steps)

pub returns-in_err-item_at-clause-value : goal.returns-in_err-item_at-clause-value
unfolding class_item
returns-in_err-item_at-clause-value c from piece =
    let e = err_from_is_err_and c.from_residual.result c.from_residual.ensures.1 in
    rw (e.1, e.2) (refuses_from _ _ (λ x is.
    let stops =
    refuses _ (item_at c.args.syntax.octal c.args.syntax.skips from (place c.skip_white.new.self)) (c.in_err-item_at.ensures.value from piece) x is in
    grind (arith, common_steps)))

pub returns-clause-value : goal.returns-clause-value
unfolding class_item
returns-clause-value c from piece =
    let found = c.in_ok-item_at.ensures.value from piece in
    grind (arith, common_steps)

pub returns-in_err-item_at-clause-progress : goal.returns-in_err-item_at-clause-progress
returns-in_err-item_at-clause-progress c = IfOk-from_err c.from_residual.result _ c.from_residual.ensures.0

pub returns-then-comes_first-clause-progress : goal.returns-then-comes_first-clause-progress
returns-then-comes_first-clause-progress c = lt_of_lt_of_le (c.bump.ensures.progress (c.is_at.ensures.more c.if-is_at.true)) c.skip_white.ensures.progress

pub returns-then-is_at-clause-progress : goal.returns-then-is_at-clause-progress
returns-then-is_at-clause-progress c = lt_of_lt_of_le (c.bump.ensures.progress (c.is_at.ensures.more c.if-is_at.true)) c.skip_white.ensures.progress

pub returns-clause-progress : goal.returns-clause-progress
returns-clause-progress c = lt_of_lt_of_le c.in_ok-item_at.ensures.progress c.skip_white.ensures.progress
