use Rattle.rx_syntax.specs.Partial.{IsOfFirst}
use Rattle.rx_syntax.proofs.scalars.gather.Given as goal

abbrev pub invariant-loop-item : goal.invariant-loop-item
invariant-loop-item l = IsOfFirst l.flags l.items l.item-index l.class
