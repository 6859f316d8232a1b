use Rattle.std.proofs.Common.{◌≡◌, ◌++◌, map, take, drop}
use Rattle.rx_literal.specs.Literals.{loose}
use Rattle.rx_literal.proofs.seq.loosened.Given as goal

abbrev pub invariant-loop-i : goal.invariant-loop-i
invariant-loop-i l = l.literals.items ≡ map loose (take l.i l.fn.literals.items) ++ drop l.i l.fn.literals.items
