use Rattle.std.proofs.Common.{◌≡◌, map, take}
use Rattle.std.specs.Vec.{vec_items}
use Rattle.rx_literal.specs.Literals.{bytes_of}
use Rattle.rx_order.proofs.inner.needles_of.Given as goal

abbrev pub invariant-loop-literal : goal.invariant-loop-literal
invariant-loop-literal l = map vec_items l.needles.items ≡ map bytes_of (take l.literal-index l.literals)
