use Rattle.std.proofs.Common.{◌≡◌, ◌+◌, sym, subst, arith}
use Rattle.std.specs.List.{All}
use Rattle.std.proofs.lemmas.List.Elements.{All-push}
use Rattle.rx_workers.specs.Answers.{IsFound}
use Rattle.rx_workers.proofs.worker.answer_anew.Goals as goal

pub returns-clause-found : goal.returns-clause-found
returns-clause-found g c =
    let P = IsFound (g.T.Task.size c.args.task.now) (g.T.Task.answers c.args.task.now) in
    let first : c.args.index ≡ c.args.index + 0 = omega arith in
    let answer = c.in_ok-answer.ensures.answer c.args.index 0 first (c.in_ok-value.ensures c.args.index) in
    subst (All P) (sym c.in_ok-push.ensures.items) (All-push P _ _ c.requires.before (omega arith, omega (arith, c.requires.there), answer))
