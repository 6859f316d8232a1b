use Rattle.std.proofs.Common.{◌≡◌, flat_map}
use Rattle.rx_hir.specs.Normal.{alternatives_of}
use Rattle.rx_hir.proofs.hir.Hir.alternation.Given as goal

abbrev pub invariant-loop-sub : goal.invariant-loop-sub
invariant-loop-sub l = l.alternatives.items ≡ flat_map alternatives_of l.yielded
