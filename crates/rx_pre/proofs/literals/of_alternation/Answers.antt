use Rattle.std.proofs.Common.{◌∙◌, map, ap, subst}
use Rattle.std.specs.Prelude.{IfSome}
use Rattle.std.specs.Vec.{vec_items}
use Rattle.std.proofs.lemmas.Result.{IfOk-weaker}
use Rattle.rx_prefilter.specs.Choices.{served}
use Rattle.rx_pre.specs.Whole.{TellEnds}
use Rattle.rx_pre.proofs.WholeLemmas.{served-ends}
use Rattle.rx_pre.proofs.literals.of_alternation.Goals as goal

pub returns-in-Some-clause-ends : goal.returns-in-Some-clause-ends
returns-in-Some-clause-ends c =
    let h = c.args.hir.now in
    let runs = c.in_ok-texts.ensures.runs h c.from_ref.ensures.value in
    let told = subst (λ o. IfSome o (λ v. TellEnds (map vec_items v.items) h)) c.in-Some.is runs in
    IfOk-weaker c.new.result _ _
    (λ made e. served-ends h (map vec_items c.in-Some.texts.items) told made (e ∙ ap (λ xs. served (map vec_items xs)) c.deref.ensures.value))
    c.new.ensures
