use Rattle.std.proofs.Common.{◌≡◌, ◌-◌, ◌≤◌, length, map}
use Rattle.std.specs.Vec.{vec_items}
use Rattle.rx_prefilter.specs.Needles.{first_span}
use Rattle.rx_prefilter.proofs.multi.Multi.find_by_jumps.Given as goal

abbrev pub invariant-loop-failed : goal.invariant-loop-failed
invariant-loop-failed l = (l.from ≤ l.at) × (l.at ≤ length l.text)
    × (first_span (map vec_items l.self-inside.table.needles.items) l.text l.from ≡ first_span (map vec_items l.self-inside.table.needles.items) l.text l.at)

abbrev pub decreases-loop-failed : goal.decreases-loop-failed
decreases-loop-failed l = length l.text - l.at
