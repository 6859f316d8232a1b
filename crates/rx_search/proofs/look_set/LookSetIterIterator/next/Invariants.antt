use Rattle.std.proofs.Common.{◌≡◌, ◌-◌}
use Rattle.rx_search.specs.LookSet.{kinds_from}
use Rattle.rx_search.proofs.look_set.LookSetIterIterator.next.Given as goal

-- the kinds that are still to come are those at the start
abbrev pub invariant-loop-look : goal.invariant-loop-look
invariant-loop-look l = kinds_from l.self-inside.set l.self-inside.number ≡ l.fn.self

abbrev pub decreases-loop-look : goal.decreases-loop-look
decreases-loop-look l = 18 - l.self-inside.number
