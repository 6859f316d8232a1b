use Rattle.std.proofs.Common.{◌≡◌, map, drop}
use Rattle.std.specs.List.{list_any}
use Rattle.std.specs.Vec.{vec_items}
use Rattle.rx_prefilter.specs.Choices.{is_empty}
use Rattle.rx_prefilter.proofs.needles.has_empty.Given as goal

abbrev pub invariant-loop-needle : goal.invariant-loop-needle
invariant-loop-needle l = list_any is_empty (map vec_items l.needles) ≡ list_any is_empty (drop l.needle-index (map vec_items l.needles))
