use Rattle.std.proofs.Common.{◌≡◌, ◌-◌, ◌≤◌, length, map}
use Rattle.std.specs.Vec.{vec_items}
use Rattle.rx_prefilter.specs.Needles.{first_span}
use Rattle.rx_prefilter.proofs.multi.place_table.PlaceTable.find.Given as goal

abbrev pub invariant-loop-at : goal.invariant-loop-at
invariant-loop-at l = (l.at ≤ length l.text) × (first_span (map vec_items l.self.needles.items) l.text l.from ≡ first_span (map vec_items l.self.needles.items)
    l.text l.at)

abbrev pub decreases-loop-at : goal.decreases-loop-at
decreases-loop-at l = length l.text - l.at
