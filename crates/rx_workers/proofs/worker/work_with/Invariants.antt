use Rattle.rx_workers.specs.Answers.{AreFound}
use Rattle.rx_workers.specs.Places.{IsDrawer}
use Rattle.rx_workers.proofs.worker.work_with.Given as goal

abbrev pub invariant-draws : goal.invariant-draws
invariant-draws g l = record {
  drawer : IsDrawer l.draws l.drawer;
  fits : g.T.Task.fits l.task l.scratch;
  found : AreFound (g.T.Task.size l.task) (g.T.Task.answers l.task) l.found.items;
}

abbrev pub invariant-loop-number : goal.invariant-loop-number
invariant-loop-number g l = record {
  fits : g.T.Task.fits l.task l.scratch;
  found : AreFound (g.T.Task.size l.task) (g.T.Task.answers l.task) l.found.items;
}
