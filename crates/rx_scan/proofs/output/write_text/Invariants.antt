use Rattle.std.proofs.Common.{length, ◌-◌, ◌≤◌, take}
use Rattle.rx_scan.specs.Ends.{Gains}
use Rattle.rx_scan.proofs.output.write_text.Given as goal

abbrev pub invariant-loop-done : goal.invariant-loop-done
invariant-loop-done g l = record {
  within : l.done ≤ length l.text;
  gained : Gains (g.K.Sink.held l.initial.sink) (g.K.Sink.held l.sink) (take l.done l.text);
  counts : g.K.Sink.faults l.initial.sink ≤ g.K.Sink.faults l.sink;
}

abbrev pub decreases-loop-done : goal.decreases-loop-done
decreases-loop-done g l = length l.text - l.done
