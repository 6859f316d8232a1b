use Rattle.rx_syntax.specs.PartialBytes.{IsOfFirstBytes}
use Rattle.rx_syntax.proofs.bytes.gather_bytes.Given as goal

abbrev pub invariant-loop-item : goal.invariant-loop-item
invariant-loop-item l = IsOfFirstBytes l.flags l.piece l.items l.item-index l.class
