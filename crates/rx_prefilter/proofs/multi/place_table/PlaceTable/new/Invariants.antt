use Rattle.std.proofs.Common.{◌≡◌, All, length, map, take}
use Rattle.std.specs.Vec.{vec_items}
use Rattle.rx_prefilter.specs.Places.{IsMarked}
use Rattle.rx_prefilter.proofs.multi.place_table.PlaceTable.new.Given as goal

abbrev pub invariant-loop-needle : goal.invariant-loop-needle
invariant-loop-needle l = (length l.places.items ≡ 65536) × All (IsMarked l.places.items l.stride) (map vec_items (take l.needle-index l.needles))
