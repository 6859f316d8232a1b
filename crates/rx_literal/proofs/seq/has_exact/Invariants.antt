use Rattle.std.proofs.Common.{◌≡◌, false, take}
use Rattle.std.specs.List.{list_any}
use Rattle.rx_literal.specs.Literals.{is_exact}
use Rattle.rx_literal.proofs.seq.has_exact.Given as goal

abbrev pub invariant-loop-literal : goal.invariant-loop-literal
invariant-loop-literal l = list_any is_exact (take l.literal-index l.literals) ≡ false
