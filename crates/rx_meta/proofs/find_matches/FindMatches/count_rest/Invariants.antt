use Rattle.rx_meta.specs.Iterators.{most_left}
use Rattle.rx_meta.proofs.CountLemmas.{HasCounted}
use Rattle.rx_meta.proofs.find_matches.FindMatches.count_rest.Given as goal

abbrev pub invariant-loop-item : goal.invariant-loop-item
invariant-loop-item l = HasCounted l.fn.self l.self l.count

abbrev pub decreases-loop-item : goal.decreases-loop-item
decreases-loop-item l = most_left l.self
