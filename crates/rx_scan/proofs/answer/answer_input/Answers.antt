use Rattle.std.proofs.Common.{sym, ◌∙◌, ap}
use Rattle.std.proofs.lemmas.Result.{IfOk-weaker}
use Rattle.rx_scan.specs.Answer.{answer_text}
use Rattle.rx_scan.proofs.AnswerLemmas.{answer_input-too_long, answer_input-text, answer_input-not_utf8}
use Rattle.rx_scan.proofs.answer.answer_input.Goals as goal

pub returns-then-input-gt-INPUT_LIMIT : goal.returns-then-input-gt-INPUT_LIMIT
returns-then-input-gt-INPUT_LIMIT g c =
    IfOk-weaker c.too_long.result _ _ (λ a e. e ∙ sym (answer_input-too_long c.args.command.now c.args.input.now c.if-input-gt-INPUT_LIMIT.true)) c.too_long.ensures

pub returns-in-Ok : goal.returns-in-Ok
returns-in-Ok g c =
    let text = c.in-Ok.ensures.cases in
    let same = answer_input-text c.args.command.now c.args.input.now c.if-input-gt-INPUT_LIMIT.false text.1 in
    IfOk-weaker c.answer_text.result _ _ (λ a e. e ∙ ap (answer_text c.args.command.now) text.0 ∙ sym same) c.answer_text.ensures

pub returns-in-Err : goal.returns-in-Err
returns-in-Err g c =
    let same =
    answer_input-not_utf8 c.args.command.now c.args.input.now _ c.if-input-gt-INPUT_LIMIT.false c.in-Err.ensures.cases.0 (c.valid_up_to.ensures ∙ c.in-Err.ensures.valid_len) in
    IfOk-weaker c.not_utf8.result _ _ (λ a e. e ∙ sym same) c.not_utf8.ensures
