use Rattle.std.proofs.Common.{◌++◌, ap}
use Rattle.std.proofs.lemmas.Result.{IfOk-from_err}
use Rattle.rx_literal.proofs.lemmas.prefixes.WalkedLemmas.{copy-one, copy-end}
use Rattle.rx_literal.proofs.trim.owned.Goals as goal

pub returns-in_err-own : goal.returns-in_err-own
returns-in_err-own c = IfOk-from_err c.from_residual.result _ c.from_residual.ensures.0

pub loop-literal-init : goal.loop-literal-init
loop-literal-init c = ap (λ ys. ys ++ c.args.literals.now) c.in_ok-own.ensures.items

pub returns-in_err-to_literal : goal.returns-in_err-to_literal
returns-in_err-to_literal c = IfOk-from_err c.from_residual-in_err-to_literal.result _ c.from_residual-in_err-to_literal.ensures.0

pub returns-in_err-push : goal.returns-in_err-push
returns-in_err-push c = IfOk-from_err c.from_residual-in_err-push.result _ c.from_residual-in_err-push.ensures.0

pub loop-literal-preserved : goal.loop-literal-preserved
loop-literal-preserved c =
    copy-one c.args.literals.now c.loop-literal.literal-index c.literal-item.result c.loop-literal.own.items c.push.new.self.items c.args.literals.now
    c.in_ok-to_literal.field-0 c.loop-literal-test.true c.literal-item.is c.in_ok-to_literal.ensures c.in_ok-push.ensures.items c.loop-literal.invariant

pub returns : goal.returns
returns c =
    copy-end c.args.literals.now c.loop-literal.literal-index c.loop-literal.own.items c.args.literals.now c.loop-literal-test.false c.loop-literal.invariant
