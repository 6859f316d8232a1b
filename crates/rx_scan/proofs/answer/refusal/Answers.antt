use Rattle.std.proofs.Common.{◌≡◌, List, Err, sym, ap, subst, ◌∙◌}
use Rattle.std.specs.Prelude.{Result}
use Rattle.std.proofs.lemmas.Result.{IfOk-weaker}
use Rattle.rx_model.specs.Expression.{Expression}
use Rattle.rx_syntax.specs.Patterns.{Refusal, RefusesAll}
use Rattle.rx_syntax.specs.declared.patterns.PatternsError.{PatternsError}
use Rattle.rx_scan.specs.Answer.{answer_patterns}
use Rattle.rx_scan.proofs.AnswerLemmas.{answer_patterns-refused}
use Rattle.rx_scan.proofs.answer.refusal.Goals as goal

pub returns-in-Syntax : goal.returns-in-Syntax
returns-in-Syntax c = λ command r texts refuses.
    let told : r ≡ Err (record { pattern = c.in-Syntax.pattern; error = c.in-Syntax.error }) =
    subst (λ (e : PatternsError). RefusesAll e r) c.in-Syntax.is refuses in
    IfOk-weaker c.refused.result _ _
    (λ a same. same ∙ sym (ap (λ (x : Result (List Expression) Refusal). answer_patterns command x texts) told ∙ answer_patterns-refused command _ _ texts))
    c.refused.ensures
