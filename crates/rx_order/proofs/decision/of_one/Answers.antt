use Rattle.std.proofs.Common.{◌∙◌, sym, subst, true≢false, Option}
use Rattle.std.specs.Prelude.{IfSome}
use Rattle.std.proofs.lemmas.Result.{IfOk-weaker}
use Rattle.rx_model.specs.Expression.{Expression}
use Rattle.rx_order.specs.Order.{IsThenLiteral}
use Rattle.rx_order.proofs.lemmas.Forms.{suffix-from}
use Rattle.rx_order.proofs.lemmas.Yes.{suffix-ordered}
use Rattle.rx_order.proofs.decision.of_one.Goals as goal

pub returns-in-Some-clause-order : goal.returns-in-Some-clause-order
returns-in-Some-clause-order c =
    let s = c.args.suffix.now in
    let means = subst (λ (o : Option Expression). IfSome o (λ x. IsThenLiteral c.args.hir.now x s)) c.in-Some.is c.in_ok-left.ensures.meaning in
    IfOk-weaker c.rest_has_no_earlier.result _ _
    (λ b e given. suffix-from c.args.hir.now c.in-Some.rest s means (suffix-ordered c.in-Some.rest s (sym e ∙ given))) c.rest_has_no_earlier.ensures

pub returns-in-None-clause-order : goal.returns-in-None-clause-order
returns-in-None-clause-order c = λ given. absurd (true≢false (sym given))
