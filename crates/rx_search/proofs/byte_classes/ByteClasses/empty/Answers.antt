use Rattle.std.proofs.Common.{◌∙◌}
use Rattle.rx_search.proofs.ByteClassLemmas.{class_of-none}
use Rattle.rx_search.proofs.byte_classes.ByteClasses.empty.Goals as goal

pub returns-clause-value : goal.returns-clause-value
returns-clause-value c = λ b lt. c.byte_classes.ensures.value b lt ∙ class_of-none _ b c.new.ensures
