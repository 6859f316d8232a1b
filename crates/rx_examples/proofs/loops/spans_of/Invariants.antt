use Rattle.rx_meta.specs.Iterators.{most_left}
use Rattle.rx_examples.proofs.loops.spans_of.Given as goal

abbrev pub decreases-loop-found : goal.decreases-loop-found
decreases-loop-found l = most_left l.matches
