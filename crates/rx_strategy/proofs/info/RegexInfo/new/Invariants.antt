use Rattle.std.proofs.Common.{take}
use Rattle.rx_hir.specs.PropertiesViews.{AreOfEach}
use Rattle.rx_strategy.proofs.info.RegexInfo.new.Given as goal

abbrev pub invariant-loop-hir : goal.invariant-loop-hir
invariant-loop-hir l = AreOfEach (take l.hir-index l.exprs) l.each.items
