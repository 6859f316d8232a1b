use Rattle.std.proofs.Common.{All, map, take}
use Rattle.std.specs.Vec.{vec_items}
use Rattle.rx_prefilter.specs.Jumps.{few_bytes, HasAt}
use Rattle.rx_prefilter.proofs.multi.jump.Jump.at.Given as goal

abbrev pub invariant-loop-needle : goal.invariant-loop-needle
invariant-loop-needle l = All (HasAt (few_bytes l.bytes) l.offset) (map vec_items (take l.needle-index l.needles))
