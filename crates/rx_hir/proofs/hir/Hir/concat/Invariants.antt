use Rattle.std.proofs.Common.{flat_map}
use Rattle.rx_hir.specs.Normal.{joined, parts_of}
use Rattle.rx_hir.specs.Rows.{Holds}
use Rattle.rx_hir.proofs.hir.Hir.concat.Given as goal

abbrev pub invariant-loop-sub : goal.invariant-loop-sub
invariant-loop-sub l = Holds l.row (joined (flat_map parts_of l.yielded))
