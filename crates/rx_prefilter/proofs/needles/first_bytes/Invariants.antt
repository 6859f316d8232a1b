use Rattle.std.proofs.Common.{◌≡◌, map, take}
use Rattle.std.specs.Vec.{vec_items}
use Rattle.rx_prefilter.specs.Bytes.{single}
use Rattle.rx_prefilter.proofs.needles.first_bytes.Given as goal

abbrev pub invariant-loop-needle : goal.invariant-loop-needle
invariant-loop-needle l = map single l.bytes.items ≡ map vec_items (take l.needle-index l.needles)
