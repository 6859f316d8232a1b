use Rattle.std.proofs.Common.{sym, ap, ◌∙◌}
use Rattle.rx_pre.specs.Pre.{PreValue}
use Rattle.rx_pre.proofs.AnswerLemmas.{next-answers, silent-answers}
use Rattle.rx_pre.proofs.pre.Pre.search.Goals as goal

pub returns-then-self-clause-answer : goal.returns-then-self-clause-answer
returns-then-self-clause-answer c =
    next-answers c.args.self.now c.args.input.now c.find.result c.find.ensures.next (ap (λ (p : PreValue). p.tells) (sym c.self.view_is) ∙ c.if-self.true)

pub returns-clause-answer : goal.returns-clause-answer
returns-clause-answer c =
    silent-answers c.args.self.now c.args.input.now (ap (λ (p : PreValue). p.tells) (sym c.self.view_is) ∙ c.if-self.false)
