use Rattle.std.proofs.Common.{◌-◌, ◌<◌, ◌≤◌, vec_len}
use Rattle.std.specs.Io.KnownBytes.{Consumes}
use Rattle.rx_scan.specs.Ends.{CountsAtMost}
use Rattle.rx_scan.proofs.input.read_input.Given as goal

abbrev pub invariant-loop-source : goal.invariant-loop-source
invariant-loop-source g l = record {
  given : Consumes (g.S.Source.left l.initial.source) (g.S.Source.left l.source) l.input.items;
  limit : vec_len l.input ≤ 16777217;
  room : 0 < vec_len l.piece;
  counts : g.S.Source.faults l.initial.source ≤ g.S.Source.faults l.source;
  reads : CountsAtMost (g.S.Source.reads l.initial.source) (g.S.Source.reads l.source) (vec_len l.input);
}

abbrev pub decreases-loop-source : goal.decreases-loop-source
decreases-loop-source g l = 16777217 - vec_len l.input
