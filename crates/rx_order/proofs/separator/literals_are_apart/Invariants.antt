use Rattle.std.proofs.Common.{◌≡◌, map, drop}
use Rattle.std.specs.Vec.{vec_items}
use Rattle.rx_class.specs.ClassViews.{class_view}
use Rattle.rx_order.specs.Tests.{literals_are_apart}
use Rattle.rx_order.proofs.separator.literals_are_apart.Given as goal

abbrev pub invariant-loop-literal : goal.invariant-loop-literal
invariant-loop-literal l =
    literals_are_apart (class_view l.class) (drop l.literal-index (map vec_items l.literals))
    ≡ literals_are_apart (class_view l.class) (map vec_items l.literals)
