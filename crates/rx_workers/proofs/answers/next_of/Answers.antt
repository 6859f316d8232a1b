use Rattle.std.proofs.Common.{◌≡◌}
use Rattle.std.proofs.lemmas.List.Elements.{All-rest}
use Rattle.rx_workers.specs.Answers.{IsFound}
use Rattle.rx_workers.proofs.answers.next_of.Goals as goal

pub returns-then-one-index-clause-rest : goal.returns-then-one-index-clause-rest
returns-then-one-index-clause-rest g c =
    All-rest (IsFound (g.T.Task.size c.args._task.now) (g.T.Task.answers c.args._task.now)) c.in_ok-one.one _ _ c.in_ok-one.ensures.items c.requires

pub returns-clause-rest : goal.returns-clause-rest
returns-clause-rest g c =
    All-rest (IsFound (g.T.Task.size c.args._task.now) (g.T.Task.answers c.args._task.now)) c.in_ok-one.one _ _ c.in_ok-one.ensures.items c.requires
