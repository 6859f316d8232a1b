use Rattle.std.proofs.Common.{◌≡◌, true, take}
use Rattle.std.specs.List.{list_all}
use Rattle.rx_literal.specs.Literals.{is_exact}
use Rattle.rx_literal.proofs.trim.are_exact.Given as goal

abbrev pub invariant-loop-literal : goal.invariant-loop-literal
invariant-loop-literal l = list_all is_exact (take l.literal-index l.literals) ≡ true
