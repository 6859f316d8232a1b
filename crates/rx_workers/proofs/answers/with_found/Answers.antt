use Rattle.std.proofs.Common.{sym, subst, IfOk}
use Rattle.std.specs.List.{All}
use Rattle.std.proofs.lemmas.List.Elements.{All-push}
use Rattle.rx_workers.specs.Answers.{AreFound}
use Rattle.rx_workers.proofs.answers.with_found.Goals as goal

pub returns : goal.returns
returns g c =
    let Are = AreFound (g.T.Task.size c.args._task.now) (g.T.Task.answers c.args._task.now) in
    let before = subst (λ r. IfOk r (λ all. All (λ queue. Are queue.items) all.items)) c.in_ok-all.was c.requires.all in
    let own = subst (λ r. IfOk r (λ found. Are found.items)) c.in_ok-found.was c.requires.found in
    subst (All (λ queue. Are queue.items)) (sym c.in_ok-push.ensures.items)
    (All-push (λ queue. Are queue.items) _ _ before (subst Are (sym c.from_vec.ensures.items) own))
