use Rattle.std.proofs.Common.{◌≡◌, ◌++◌}
use Rattle.rx_literal.proofs.seq.both.Given as goal

abbrev pub invariant-loop-literal : goal.invariant-loop-literal
invariant-loop-literal l = l.literals.items ≡ l.fn.literals.items ++ l.yielded
