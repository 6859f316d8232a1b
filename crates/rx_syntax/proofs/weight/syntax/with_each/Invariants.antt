use Rattle.std.proofs.Common.{List, ◌++◌, take, map, flat_map}
use Rattle.rx_model.specs.Expression.{Expression}
use Rattle.rx_hir.specs.Normal.{parts_of}
use Rattle.rx_syntax.specs.Literals.{in_either_case}
use Rattle.rx_syntax.specs.Row.{IsRow}
use Rattle.rx_syntax.proofs.weight.syntax.with_each.Given as goal

abbrev pub invariant-loop-c : goal.invariant-loop-c
invariant-loop-c l =
    (ps : List Expression) → IsRow ps l.fn.before → IsRow (ps ++ flat_map parts_of (map (in_either_case l.flags) (take l.c-index l.run))) l.row
