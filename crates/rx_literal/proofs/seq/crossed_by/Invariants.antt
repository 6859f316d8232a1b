use Rattle.std.proofs.Common.{◌≡◌}
use Rattle.std.specs.List.{flat_map}
use Rattle.rx_literal.specs.Literals.{extended_by_each}
use Rattle.rx_literal.proofs.seq.crossed_by.Given as goal

abbrev pub invariant-loop-literal : goal.invariant-loop-literal
invariant-loop-literal l = l.all.items ≡ flat_map (extended_by_each l.fn.side l.fn.others) l.yielded
