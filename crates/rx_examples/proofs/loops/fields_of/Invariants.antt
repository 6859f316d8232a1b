use Rattle.rx_meta.specs.Iterators.{most_gaps_left}
use Rattle.rx_examples.proofs.loops.fields_of.Given as goal

abbrev pub decreases-loop-field : goal.decreases-loop-field
decreases-loop-field l = most_gaps_left l.fields
