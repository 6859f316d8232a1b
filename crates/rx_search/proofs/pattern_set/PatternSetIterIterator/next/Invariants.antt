use Rattle.std.proofs.Common.{◌≡◌, ◌-◌, length, drop}
use Rattle.rx_search.specs.PatternSet.{members_from, AreIdentifiers}
use Rattle.rx_search.proofs.pattern_set.PatternSetIterIterator.next.Given as goal

-- the patterns that are still to come are those at the start
abbrev pub invariant-loop-is_there : goal.invariant-loop-is_there
invariant-loop-is_there l =
    (members_from l.self-inside.next (drop l.self-inside.next l.self-inside.which.now) ≡ l.fn.self) × AreIdentifiers l.self-inside.which.now

abbrev pub decreases-loop-is_there : goal.decreases-loop-is_there
decreases-loop-is_there l = length l.self-inside.which.now - l.self-inside.next
