use Rattle.rx_meta.specs.Iterators.{most_left}
use Rattle.rx_examples.proofs.loops.values_of.Given as goal

abbrev pub decreases-loop-captures : goal.decreases-loop-captures
decreases-loop-captures l = most_left l.settings
