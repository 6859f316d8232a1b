use Rattle.std.proofs.Common.{List}
use Rattle.rx_model.specs.Expression.{Expression}
use Rattle.rx_hir.specs.Joined.{and_then_all}
use Rattle.rx_hir.specs.Rows.{Holds}
use Rattle.rx_hir.proofs.hir.concat.with_all.Given as goal

abbrev pub invariant-loop-sub : goal.invariant-loop-sub
invariant-loop-sub l = (hs : List Expression) → Holds l.initial.row hs → Holds l.row (and_then_all hs l.yielded)
