use Rattle.std.proofs.Common.{◌≡◌, length, arith, Ok, sym, ap, subst, ◌∙◌}
use Rattle.std.proofs.lemmas.Result.{IfOk-weaker}
use Rattle.rx_reader.specs.Config.{default}
use Rattle.rx_syntax.specs.Patterns.{all_translated}
use Rattle.rx_scan.specs.Answer.{answer_patterns}
use Rattle.rx_scan.specs.Input.{lines}
use Rattle.rx_scan.specs.Patterns.{MeanUtf8}
use Rattle.rx_scan.proofs.AnswerLemmas.{answer_patterns-big}
use Rattle.rx_scan.proofs.answer.answer_weighed.Goals as goal

pub returns-then-not-are_small : goal.returns-then-not-are_small
returns-then-not-are_small g c =
    let own = c.requires.weights in
    let texts = lines c.args.haystacks.now in
    let counted : length own.expressions ≡ c.len.result = omega (arith, own.counted, c.len.ensures, c.args.asts.ok.0) in
    let big = sym (c.are_small.ensures own.expressions own.weights counted) ∙ c.if-not-are_small.true in
    IfOk-weaker c.too_big.result _ _ (λ a e. e ∙ sym (ap (λ r. answer_patterns c.args.command.now r texts) own.are ∙ answer_patterns-big c.args.command.now own.expressions texts big))
    c.too_big.ensures

pub returns-in-Ok : goal.returns-in-Ok
returns-in-Ok g c =
    let texts = lines c.args.haystacks.now in
    IfOk-weaker c.answer_patterns.result _ _
    (λ a e. e ∙ ap (λ hs. answer_patterns c.args.command.now (Ok hs) texts) c.deref.ensures.value ∙ ap (λ r. answer_patterns c.args.command.now r texts) (sym c.in-Ok.ensures))
    c.answer_patterns.ensures

pub returns-in-Err : goal.returns-in-Err
returns-in-Err g c = c.refusal.ensures c.args.command.now (all_translated default c.args.asts.items) (lines c.args.haystacks.now) c.in-Err.ensures

pub answer_patterns-requires-clause-utf8 : goal.answer_patterns-requires-clause-utf8
answer_patterns-requires-clause-utf8 g c = λ lifetimes bounds. subst MeanUtf8 (sym c.deref.ensures.value)
    (c.requires.utf8 c.in-Ok.expressions.items c.in-Ok.ensures)
