use Rattle.std.proofs.Common.{sym, subst}
use Rattle.rx_search.specs.ByteClasses.{AreClasses}
use Rattle.rx_nfa.specs.ByteClasses.{AreClassesOf}
use Rattle.rx_dfa.proofs.alphabet.classes_of.Goals as goal

pub returns-then-byte_classes-clause-classes : goal.returns-then-byte_classes-clause-classes
unfolding AreClassesOf
returns-then-byte_classes-clause-classes c = subst AreClasses (sym c.byte_classes.ensures.value) c.byte_classes.ensures.in_range.classes.0
