use Rattle.std.proofs.Common.{◌≡◌, map, drop}
use Rattle.std.specs.List.{list_all}
use Rattle.std.specs.Vec.{vec_items}
use Rattle.rx_order.specs.Tests.{is_not_empty}
use Rattle.rx_order.proofs.decision.are_literals.Given as goal

abbrev pub invariant-loop-literal : goal.invariant-loop-literal
invariant-loop-literal l = list_all is_not_empty (drop l.literal-index (map vec_items l.literals)) ≡ list_all is_not_empty (map vec_items l.literals)
