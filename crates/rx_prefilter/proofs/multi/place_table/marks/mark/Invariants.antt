use Rattle.std.proofs.Common.{◌≡◌, ℕ, ◌<◌, slice_index}
use Rattle.std.specs.Int.{bit_at}
use Rattle.rx_prefilter.specs.Places.{pair_at, Keeps}
use Rattle.rx_prefilter.proofs.multi.place_table.marks.mark.Given as goal

abbrev pub invariant-loop-j : goal.invariant-loop-j
invariant-loop-j l = Keeps l.initial.places l.places × ((k : ℕ) → k < l.j → bit_at (slice_index l.places (pair_at l.needle k)) k ≡ 1)
