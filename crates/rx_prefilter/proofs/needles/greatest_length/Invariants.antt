use Rattle.std.proofs.Common.{◌≡◌, map, drop, max}
use Rattle.std.specs.Vec.{vec_items}
use Rattle.rx_prefilter.specs.Choices.{greatest_length}
use Rattle.rx_prefilter.proofs.needles.greatest_length.Given as goal

abbrev pub invariant-loop-needle : goal.invariant-loop-needle
invariant-loop-needle l = greatest_length (map vec_items l.needles) ≡ max l.greatest (greatest_length (drop l.needle-index (map vec_items l.needles)))
