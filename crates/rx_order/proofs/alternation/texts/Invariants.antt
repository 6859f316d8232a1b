use Rattle.std.proofs.Common.{◌≡◌, ◌++◌, map, drop}
use Rattle.std.specs.Option.{option_map}
use Rattle.std.specs.Vec.{vec_items}
use Rattle.rx_order.specs.Alternation.{texts_of}
use Rattle.rx_order.proofs.alternation.texts.Given as goal

abbrev pub invariant-loop-sub : goal.invariant-loop-sub
invariant-loop-sub l =
    option_map (λ later. map vec_items l.literals.items ++ later) (texts_of (drop l.sub-index l.subs)) ≡ texts_of l.subs
