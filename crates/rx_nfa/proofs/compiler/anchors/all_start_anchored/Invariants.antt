use Rattle.std.proofs.Common.{◌≡◌, true, take}
use Rattle.rx_nfa.specs.Compiled.{all_start_anchored}
use Rattle.rx_nfa.proofs.compiler.anchors.all_start_anchored.Given as goal

abbrev pub invariant-loop-hir : goal.invariant-loop-hir
invariant-loop-hir l = all_start_anchored (take l.hir-index l.exprs) ≡ true
