use Rattle.std.proofs.Common.{◌≡◌, ◌++◌, drop}
use Rattle.rx_literal.proofs.trim.owned.Given as goal

abbrev pub invariant-loop-literal : goal.invariant-loop-literal
invariant-loop-literal l = l.own.items ++ drop l.literal-index l.literals ≡ l.literals
