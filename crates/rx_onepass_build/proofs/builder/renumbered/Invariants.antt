use Rattle.std.proofs.Common.{◌≡◌, ◌++◌, map, drop, slice_index}
use Rattle.rx_onepass_build.proofs.builder.renumbered.Given as goal

abbrev pub invariant-loop-k : goal.invariant-loop-k
invariant-loop-k l = record {
  settled : l.settled.items ++ map (slice_index l.after) (drop l.k l.rows) ≡ map (slice_index l.after) l.rows;
}
