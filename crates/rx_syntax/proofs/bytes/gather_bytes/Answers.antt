use Rattle.std.proofs.Common.{arith}
use Rattle.rx_syntax.proofs.lemmas.sets.PartialByteLemmas.{bytes-begun, bytes-more, bytes-over}
use Rattle.rx_syntax.proofs.bytes.gather_bytes.Goals as goal

pub loop-item-init : goal.loop-item-init
loop-item-init c = bytes-begun c.args.flags c.args.piece c.args.items.now c.new-class.result c.new-class.ensures

pub loop-item-preserved : goal.loop-item-preserved
loop-item-preserved c =
    bytes-more c.args.flags c.args.piece c.args.items.now c.loop-item.item-index c.item-item.result c.loop-item.class c.in_ok-class.class c.in_ok-added.added
    c.loop-item-test.true c.item-item.is c.in_ok-added.ensures c.loop-item.invariant c.in_ok-class.ensures

pub returns : goal.returns
returns c =
    bytes-over c.args.flags c.args.piece c.args.items.now c.loop-item.item-index c.loop-item.class c.in_ok-build.field-0
    (omega (arith, c.loop-item-test.false)) c.loop-item.invariant c.in_ok-build.ensures
