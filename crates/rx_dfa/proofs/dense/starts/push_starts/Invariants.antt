use Rattle.std.proofs.Common.{◌≡◌, length}
use Rattle.rx_dfa.specs.Scratch.{room_of}
use Rattle.rx_dfa.specs.Found.{IsNumber, AreFound, Grows}
use Rattle.rx_dfa.specs.Job.{dfa_in}
use Rattle.rx_dfa.specs.Work.{AreBegun}
use Rattle.rx_dfa.proofs.dense.starts.push_starts.Given as goal

abbrev pub invariant-loop-class : goal.invariant-loop-class
invariant-loop-class l = record {
  room : room_of l.desk.scratch ≡ length l.job.source.states.now;
  grows : Grows l.fn.found l.found;
  found : AreFound (dfa_in l.job) l.found;
  begun : AreBegun (dfa_in l.job) (IsNumber l.found) l.start l.loops l.class l.fn.starts.items l.starts.items;
}
