use Rattle.std.proofs.Common.{◌≡◌, map}
use Rattle.rx_literal.specs.Literals.{cut}
use Rattle.rx_literal.proofs.seq.all_shortened.Given as goal

abbrev pub invariant-loop-literal : goal.invariant-loop-literal
invariant-loop-literal l = l.all.items ≡ map (cut l.fn.side 100) l.yielded
