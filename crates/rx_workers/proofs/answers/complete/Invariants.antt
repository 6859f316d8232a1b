use Rattle.std.proofs.Common.{◌≤◌, ◌-◌}
use Rattle.std.specs.List.{All}
use Rattle.rx_workers.specs.Answers.{AreFound}
use Rattle.rx_workers.proofs.answers.complete.Given as goal

abbrev pub invariant-numbers : goal.invariant-numbers
invariant-numbers g l = record {
  found : All (λ found. AreFound (g.T.Task.size l.task) (g.T.Task.answers l.task) found.items) l.queues.items;
  within : l.index ≤ g.T.Task.size l.task;
  whole : g.T.Task.gathers l.task l.index l.whole;
}

abbrev pub decreases-numbers : goal.decreases-numbers
decreases-numbers g l = g.T.Task.size l.task - l.index
