use Rattle.std.proofs.Common.{◌<◌, ◌≤◌, All, length, map, take}
use Rattle.std.specs.Vec.{vec_items}
use Rattle.rx_prefilter.proofs.multi.place_table.marks.stride_of.Given as goal

abbrev pub invariant-loop-needle : goal.invariant-loop-needle
invariant-loop-needle l = (0 < l.stride) × (l.stride ≤ 8) × All (λ needle. l.stride < length needle) (map vec_items (take l.needle-index l.needles))
