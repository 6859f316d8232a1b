use Rattle.std.proofs.Common.{◌≡◌, ◌+◌, length}
use Rattle.rx_dfa.specs.Scratch.{room_of}
use Rattle.rx_dfa.specs.Found.{IsNumber, AreFound, Grows}
use Rattle.rx_dfa.specs.Job.{dfa_in}
use Rattle.rx_dfa.specs.Work.{AreStarted}
use Rattle.rx_dfa.proofs.dense.starts.starts_of.Given as goal

abbrev pub invariant-loop-start : goal.invariant-loop-start
invariant-loop-start l = record {
  room : room_of l.desk.scratch ≡ length l.job.source.states.now;
  grows : Grows l.fn.found l.found;
  found : AreFound (dfa_in l.job) l.found;
  started : AreStarted (dfa_in l.job) (IsNumber l.found) (l.start-index + 2) l.starts.items;
}
