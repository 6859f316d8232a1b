use Rattle.std.proofs.Common.{map}
use Rattle.std.specs.Option.{IfSome}
use Rattle.std.specs.Vec.{vec_items}
use Rattle.rx_prefilter.specs.Jumps.{IsJumpFor}
use Rattle.rx_prefilter.proofs.multi.jump.Jump.of.Given as goal

abbrev pub invariant-loop-offset : goal.invariant-loop-offset
invariant-loop-offset l = IfSome l.best (λ jump. IsJumpFor jump (map vec_items l.needles))
