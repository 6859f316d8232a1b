use Rattle.std.proofs.Common.{◌≡◌, map, drop}
use Rattle.std.specs.List.{list_all}
use Rattle.std.specs.Vec.{vec_items}
use Rattle.rx_prefilter.specs.Choices.{is_single}
use Rattle.rx_prefilter.proofs.needles.are_single.Given as goal

abbrev pub invariant-loop-needle : goal.invariant-loop-needle
invariant-loop-needle l = list_all is_single (map vec_items l.needles) ≡ list_all is_single (drop l.needle-index (map vec_items l.needles))
