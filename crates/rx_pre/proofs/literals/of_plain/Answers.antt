use Rattle.std.proofs.Common.{sym, ◌∙◌, subst}
use Rattle.std.specs.Prelude.{ℕ, List, Option, IfSome}
use Rattle.std.proofs.lemmas.Result.{IfOk-weaker}
use Rattle.rx_pre.specs.Whole.{TellEnds}
use Rattle.rx_pre.proofs.WholeLemmas.{needles-exact, needles-texts, ok-both, whole-exact, whole-texts}
use Rattle.rx_pre.proofs.literals.of_plain.Goals as goal

pub returns-in-Some-clause-value : goal.returns-in-Some-clause-value
returns-in-Some-clause-value c =
    needles-exact c.args.hir.now c.requires.plain c.requires.ordered c.in-Some.pre (sym c.in_ok-pre.ensures.value ∙ c.in-Some.is)

pub returns-in-Some-clause-whole : goal.returns-in-Some-clause-whole
returns-in-Some-clause-whole c =
    let h = c.args.hir.now in
    let ends = subst (λ (o : Option (List (List ℕ))). IfSome o (λ needles. TellEnds needles h)) c.in-Some.is c.in_ok-pre.ensures.ends in
    whole-exact h c.requires.plain c.requires.ordered c.in-Some.pre (sym c.in_ok-pre.ensures.value ∙ c.in-Some.is) ends

pub returns-in-None-clause-value : goal.returns-in-None-clause-value
returns-in-None-clause-value c =
    let none = sym c.in_ok-pre.ensures.value ∙ c.in-None.is in
    IfOk-weaker c.of_alternation.result _ _ (λ made e. needles-texts c.args.hir.now c.requires.plain c.requires.ordered none made e) c.of_alternation.ensures.value

pub returns-in-None-clause-whole : goal.returns-in-None-clause-whole
returns-in-None-clause-whole c =
    ok-both c.of_alternation.result (λ made e ends. whole-texts c.args.hir.now c.requires.plain c.requires.ordered made e ends) c.of_alternation.ensures.value
    c.of_alternation.ensures.ends
