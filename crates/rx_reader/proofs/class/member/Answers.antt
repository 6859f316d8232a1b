use Rattle.std.proofs.Common.{arith, ◌≡◌, sym, subst}
use Rattle.std.proofs.lemmas.Grind.{common_steps}
use Rattle.std.proofs.lemmas.Result.{err_from_is_err_and, IfOk-from_err}
use Rattle.rx_reader.specs.Input.{place, Reads}
use Rattle.rx_reader.proofs.lemmas.places.ReadsLemmas.{refuses_from, refuses}
use Rattle.rx_reader.specs.Escapes.{escape}
use Rattle.rx_reader.specs.Classes.{member, posix, escaped_member}
use Rattle.rx_reader.proofs.class.member.Goals as goal

pub returns-in_err-escaped-clause-value : goal.returns-in_err-escaped-clause-value
unfolding member
returns-in_err-escaped-clause-value c =
    let e = err_from_is_err_and c.from_residual.result c.from_residual.ensures.1 in
    rw (e.1, e.2) (refuses_from _ _ (λ x is.
    let stops = refuses _ (escape c.args.syntax.octal (place c.args.cursor.now)) c.in_err-escaped.ensures.value x is in
    grind (arith, common_steps)))

pub returns-then-is_at-clause-value : goal.returns-then-is_at-clause-value
unfolding member
returns-then-is_at-clause-value c =
    let p = place c.args.cursor.now in
    let q = place c.escape.new.cursor in
    let same : member c.args.syntax.octal p ≡ escaped_member p (c.in_ok-escaped.escaped, q) = grind (arith, common_steps) in
    subst (λ reading. Reads c.escaped_member.result reading q) (sym same) (c.escaped_member.ensures p c.at-start.ensures)

pub returns-in_err-posix-clause-value : goal.returns-in_err-posix-clause-value
unfolding member
returns-in_err-posix-clause-value c =
    let e = err_from_is_err_and c.from_residual-in_err-posix.result c.from_residual-in_err-posix.ensures.1 in
    rw (e.1, e.2) (refuses_from _ _ (λ x is.
    let stops = refuses _ (posix (place c.args.cursor.now)) c.in_err-posix.ensures.value x is in
    grind (arith, common_steps)))

pub returns-then-is_at-2-clause-value : goal.returns-then-is_at-2-clause-value
unfolding member
returns-then-is_at-2-clause-value c = grind (arith, common_steps)

pub returns-clause-value : goal.returns-clause-value
unfolding member
returns-clause-value c = rw c.plain.ensures (grind (arith, common_steps))

pub returns-in_err-escaped-clause-progress : goal.returns-in_err-escaped-clause-progress
returns-in_err-escaped-clause-progress c = IfOk-from_err c.from_residual.result _ c.from_residual.ensures.0

pub returns-in_err-posix-clause-progress : goal.returns-in_err-posix-clause-progress
returns-in_err-posix-clause-progress c = IfOk-from_err c.from_residual-in_err-posix.result _ c.from_residual-in_err-posix.ensures.0
