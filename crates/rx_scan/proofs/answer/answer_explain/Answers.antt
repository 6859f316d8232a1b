use Rattle.std.proofs.Common.{[], sym, subst, ◌∙◌}
use Rattle.std.proofs.lemmas.Result.{IfOk-weaker}
use Rattle.rx_meta.specs.Build.{IsBuilt, IsRefused}
use Rattle.rx_meta.specs.declared.error.BuildError.TheVariants.{NFA}
use Rattle.rx_scan.specs.Arguments.{config_without, switched_off}
use Rattle.rx_scan.specs.declared.arguments.Command.TheVariants.{Explain}
use Rattle.rx_scan.proofs.AnswerLemmas.{answer_patterns-small, answer_patterns-big}
use Rattle.rx_scan.proofs.PatternLemmas.{small-allowed, refused-big}
use Rattle.rx_scan.proofs.answer.answer_explain.Goals as goal

pub returns-in-Ok : goal.returns-in-Ok
returns-in-Ok c texts =
    let hs = c.args.expressions.now in
    let off = switched_off [] in
    let built : IsBuilt (config_without off) hs c.in-Ok.regex = subst (λ k. IsBuilt k hs c.in-Ok.regex) c.builder_without.ensures c.in-Ok.ensures.built in
    IfOk-weaker c.explained.result _ _ (λ a e. e ∙ sym (answer_patterns-small Explain hs texts (small-allowed off hs built.allowed))) (c.explained.ensures hs built)

pub returns-in-Err-NFA : goal.returns-in-Err-NFA
returns-in-Err-NFA c texts =
    let hs = c.args.expressions.now in
    let off = switched_off [] in
    let refused = rw c.in-Err-NFA.field-0-is at c.in-Err-NFA.ensures.refused in
    let is = subst (λ k. IsRefused k hs (NFA c.in-Err-NFA.field-0-0)) c.builder_without.ensures refused in
    IfOk-weaker c.too_big.result _ _ (λ a e. e ∙ sym (answer_patterns-big Explain hs texts (refused-big off c.in-Err-NFA.field-0-0 hs is))) c.too_big.ensures
