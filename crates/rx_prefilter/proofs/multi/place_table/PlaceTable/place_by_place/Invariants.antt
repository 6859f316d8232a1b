use Rattle.std.proofs.Common.{◌≡◌, ◌+◌, ◌-◌, map}
use Rattle.std.specs.Vec.{vec_items}
use Rattle.rx_prefilter.specs.Needles.{span_among}
use Rattle.rx_prefilter.proofs.multi.place_table.PlaceTable.place_by_place.Given as goal

abbrev pub invariant-loop-i : goal.invariant-loop-i
invariant-loop-i l = span_among (map vec_items l.self.needles.items) l.text l.at l.self.stride ≡ span_among (map vec_items l.self.needles.items) l.text
    (l.at + l.i) (l.self.stride - l.i)
