use Rattle.std.proofs.Common.{◌≡◌, map, drop}
use Rattle.std.specs.List.{list_all}
use Rattle.std.specs.Vec.{vec_items}
use Rattle.rx_prefilter.specs.Choices.{has_bytes}
use Rattle.rx_prefilter.proofs.needles.have_bytes.Given as goal

abbrev pub invariant-loop-needle : goal.invariant-loop-needle
invariant-loop-needle l = list_all (has_bytes l.least) (map vec_items l.needles) ≡ list_all (has_bytes l.least) (drop l.needle-index (map vec_items l.needles))
