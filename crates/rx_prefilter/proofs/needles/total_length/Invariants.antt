use Rattle.std.proofs.Common.{◌≡◌, ◌+◌, ◌<◌, ◌^◌, map, drop}
use Rattle.std.specs.Vec.{vec_items}
use Rattle.rx_prefilter.specs.Choices.{total_length, saturated}
use Rattle.rx_prefilter.proofs.needles.total_length.Given as goal

abbrev pub invariant-loop-needle : goal.invariant-loop-needle
invariant-loop-needle l = (l.total < 2 ^ 64) × (saturated (total_length (map vec_items l.needles)) ≡ saturated
    (l.total + total_length (drop l.needle-index (map vec_items l.needles))))
