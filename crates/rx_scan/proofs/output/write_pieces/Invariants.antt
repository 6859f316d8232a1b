use Rattle.std.proofs.Common.{◌≡◌, ◌≤◌, ◌++◌, ℕ, List, drop}
use Rattle.std.specs.List.{flat_map}
use Rattle.std.specs.Vec.{vec_items}
use Rattle.rx_scan.specs.Ends.{Gains}
use Rattle.rx_scan.proofs.output.write_pieces.Given as goal

abbrev pub invariant-loop-piece : goal.invariant-loop-piece
invariant-loop-piece g l = record {
  told : (written : List ℕ) × Gains (g.K.Sink.held l.initial.sink) (g.K.Sink.held l.sink) written
      × (written ++ l.gathered.items ++ flat_map vec_items (drop l.piece-index l.pieces) ≡ flat_map vec_items l.pieces);
  counts : g.K.Sink.faults l.initial.sink ≤ g.K.Sink.faults l.sink;
}
