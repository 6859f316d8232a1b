use Rattle.std.proofs.Common.{map, length, ◌<◌, arith}
use Rattle.std.specs.Vec.{vec_items}
use Rattle.rx_order.proofs.lemmas.PlaceLemmas.{few-none}
use Rattle.rx_order.proofs.separator.one_separates.Goals as goal

pub returns-then-parts-lt2 : goal.returns-then-parts-lt2
returns-then-parts-lt2 c = few-none c.args.parts.now (map vec_items c.args.literals.now) (let few : length c.args.parts.now < 2 = omega arith in few)
