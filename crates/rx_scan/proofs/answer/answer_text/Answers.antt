use Rattle.std.proofs.Common.{sym, ap, ◌∙◌, refl}
use Rattle.std.proofs.lemmas.Result.{IfOk-weaker}
use Rattle.rx_reader.specs.Config.{default}
use Rattle.rx_syntax.specs.Patterns.{all_syntaxes, all_read, translated_if}
use Rattle.rx_syntax.proofs.lemmas.translation.Utf8Lemmas.{of_patterns}
use Rattle.rx_thompson.proofs.LimitsLemmas.{refuses-read}
use Rattle.rx_scan.specs.Input.{lines, patterns, haystacks}
use Rattle.rx_scan.specs.Patterns.{patterns_of}
use Rattle.rx_scan.proofs.AnswerLemmas.{answer_text-is}
use Rattle.rx_scan.proofs.answer.answer_text.Goals as goal

pub returns-in-Ok : goal.returns-in-Ok
returns-in-Ok g c =
    let s = c.in-Ok.ensures in
    IfOk-weaker c.answer_read.result _ _ (λ a same. same ∙ sym (answer_text-is c.args.command.now c.args.text.now _ _ (ap (translated_if default) s.syntaxes) s.haystacks))
    c.answer_read.ensures

pub returns-in-Err : goal.returns-in-Err
returns-in-Err g c =
    let text = c.args.text.now in
    let refuses = refuses-read default c.in-Err.error (all_syntaxes default (patterns (lines text))) c.in-Err.ensures in
    IfOk-weaker c.refusal.result _ _ (λ a same. same ∙ sym (answer_text-is c.args.command.now text _ _ refl refl))
    (c.refusal.ensures c.args.command.now (all_read default (patterns (lines text))) (haystacks (lines text)) refuses)

pub answer_read-requires-clause-utf8 : goal.answer_read-requires-clause-utf8
answer_read-requires-clause-utf8 g c =
    λ lifetimes bounds.
    let s = c.in-Ok.ensures in
    λ hs is text utf8. of_patterns default (patterns (lines c.args.text.now)) (patterns_of hs) text refl s.patterns (ap (translated_if default) s.syntaxes ∙ is)
    utf8
