use Rattle.std.proofs.Common.{◌++◌, map, refl, ap, sym, ◌∙◌}
use Rattle.std.proofs.lemmas.Result.{IfOk-from_err}
use Rattle.rx_literal.specs.Literals.{Literal, bytes_of, cut, extended}
use Rattle.rx_literal.proofs.lemmas.prefixes.LiteralLemmas.{inexact-stays, exact-extends}
use Rattle.rx_literal.proofs.lemmas.prefixes.WalkedLemmas.{map-step, map-over}
use Rattle.rx_literal.proofs.seq.push_extended.Goals as goal

pub returns-in_err-push : goal.returns-in_err-push
returns-in_err-push c = IfOk-from_err c.from_residual.result _ c.from_residual.ensures.0

pub returns-then-not-is_exact : goal.returns-then-not-is_exact
returns-then-not-is_exact c =
    let stays = inexact-stays c.args.side c.args.others.now c.args.literal (sym c.is_exact.ensures ∙ c.if-not-is_exact.true) in
    c.in_ok-push.ensures.items ∙ ap (λ ys. c.args.all.now.items ++ ys) stays

pub loop-other-init : goal.loop-other-init
loop-other-init c = refl

pub returns-in_err-joined_to : goal.returns-in_err-joined_to
returns-in_err-joined_to c = IfOk-from_err c.from_residual-in_err-joined_to.result _ c.from_residual-in_err-joined_to.ensures.0

pub returns-in_err-push-2 : goal.returns-in_err-push-2
returns-in_err-push-2 c = IfOk-from_err c.from_residual-in_err-push-2.result _ c.from_residual-in_err-push-2.ensures.0

pub loop-other-preserved : goal.loop-other-preserved
loop-other-preserved c =
    let side = c.args.side in
    let outer = bytes_of c.args.literal in
    let others = c.args.others.now in
    let each : Literal → Literal = λ t. cut side 100 (extended side outer t) in
    map-step each others c.loop-other.other-index c.other-item.result c.loop-other.all.items c.push-in-loop-other.new.self.items
    (c.args.all.now.items ++ map each others) c.in_ok-joined_to.field-0
    c.loop-other-test.true c.other-item.is
    (c.in_ok-joined_to.ensures ∙ ap (λ bs. cut side 100 (extended side bs c.other-item.result)) c.as_bytes.ensures)
    c.in_ok-push-2.ensures.items c.loop-other.invariant

pub returns : goal.returns
returns c =
    let side = c.args.side in
    let outer = bytes_of c.args.literal in
    let others = c.args.others.now in
    let each : Literal → Literal = λ t. cut side 100 (extended side outer t) in
    map-over each others c.loop-other.other-index c.loop-other.all.items (c.args.all.now.items ++ map each others) c.loop-other-test.false
    c.loop-other.invariant
    ∙ ap (λ ys. c.args.all.now.items ++ ys) (exact-extends side others c.args.literal (sym c.is_exact.ensures ∙ c.if-not-is_exact.false))
