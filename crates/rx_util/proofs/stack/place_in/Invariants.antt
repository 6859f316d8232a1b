use Rattle.std.proofs.Common.{◌≡◌, ◌≤◌, length}
use Rattle.rx_util.specs.PoolMachine.{last_place, place_of}
use Rattle.rx_util.proofs.stack.place_in.Given as goal

-- the number stands at none of the places that were looked at
abbrev pub invariant-loop-count : goal.invariant-loop-count
invariant-loop-count l = (l.count ≤ length l.numbers) × (last_place l.number l.count l.numbers ≡ place_of l.number l.numbers)

abbrev pub decreases-loop-count : goal.decreases-loop-count
decreases-loop-count l = l.count
