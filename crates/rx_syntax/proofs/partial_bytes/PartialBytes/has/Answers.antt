use Rattle.std.proofs.Common.{subst, sym}
use Rattle.std.specs.Prelude.{All}
use Rattle.rx_syntax.specs.PartialBytes.{HoldsBytes}
use Rattle.rx_syntax.proofs.partial_bytes.PartialBytes.has.Goals as goal

pub returns-then-is : goal.returns-then-is
returns-then-is c ranges is found =
    let shown : All (HoldsBytes ranges) c.deref-set-items.result.now = subst (All (HoldsBytes ranges)) (sym c.deref-set-items.ensures.value) is.sets in
    subst (HoldsBytes ranges) (c.is.ensures c.if-is.true) (shown c.loop-set.set-index _ c.loop-set-test.true)
