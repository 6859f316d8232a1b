use Rattle.std.proofs.Common.{◌≡◌, map, drop}
use Rattle.std.specs.Vec.{vec_items}
use Rattle.rx_prefilter.specs.Needles.{span_at}
use Rattle.rx_prefilter.proofs.needles.span_at.Given as goal

abbrev pub invariant-loop-needle : goal.invariant-loop-needle
invariant-loop-needle l = span_at (map vec_items l.fn.needles) l.fn.text l.at ≡ span_at (drop l.needle-index (map vec_items l.fn.needles)) l.fn.text l.at
