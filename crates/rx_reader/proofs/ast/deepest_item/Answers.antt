use Rattle.std.proofs.Common.{◌≡◌, max, arith}
use Rattle.std.proofs.lemmas.Grind.{common_steps}
use Rattle.rx_reader.proofs.lemmas.branches.ItemLemmas.{deepest-step}
use Rattle.rx_reader.proofs.ast.deepest_item.Goals as goal

pub loop-item-preserved : goal.loop-item-preserved
loop-item-preserved c =
    let l = c.loop-item in
    let greater : c.max-most.result ≡ max l.most c.depth.result = grind (arith, common_steps) in
    rw greater (deepest-step c.args.items.now l.item-index c.item-item.result l.most c.depth.result _ c.loop-item-test.true c.item-item.is c.depth.ensures
    l.invariant)
