use Rattle.std.proofs.Common.{◌-◌, ◌≤◌, length}
use Rattle.rx_prefilter.specs.Bytes.{NoneMarked}
use Rattle.rx_prefilter.proofs.byte_set.first_of_few.Given as goal

abbrev pub invariant-loop-at : goal.invariant-loop-at
invariant-loop-at l = (l.from ≤ l.at) × (l.at ≤ length l.text) × NoneMarked l.is_needle l.text l.from l.at

abbrev pub decreases-loop-at : goal.decreases-loop-at
decreases-loop-at l = length l.text - l.at
