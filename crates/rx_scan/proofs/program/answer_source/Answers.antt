use Rattle.std.proofs.Common.{◌≡◌, ap, ◌∙◌, arith}
use Rattle.rx_scan.specs.Answer.{answer_input}
use Rattle.rx_scan.proofs.RunLemmas.{Gave-input}
use Rattle.rx_scan.proofs.program.answer_source.Goals as goal

pub returns-clause-answered : goal.returns-clause-answered
returns-clause-answered g c =
    let input = c.in_ok-input.input in
    let read = c.in_ok-input.ensures in
    let same : c.in_ok-answer.answer ≡ answer_input c.args.command.now input.items = c.in_ok-answer.ensures ∙ ap (answer_input c.args.command.now) c.deref.ensures.value in (
      input.items,
      Gave-input c.args.command.now _ _ input.items _ same read.given (omega (arith, read.limit, input.ok.0)) (λ short. read.whole (omega (arith, short, input.ok.0))),
      same,
    )
