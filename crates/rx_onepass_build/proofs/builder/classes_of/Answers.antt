use Rattle.std.proofs.Common.{sym, subst}
use Rattle.rx_search.specs.ByteClasses.{AreClasses}
use Rattle.rx_nfa.specs.ByteClasses.{AreClassesOf, AreOfOneClass}
use Rattle.rx_onepass_build.proofs.lemmas.LayoutLemmas.{target-alike, target-single}
use Rattle.rx_onepass_build.proofs.builder.classes_of.Goals as goal

pub returns-then-shared-clause-classes : goal.returns-then-shared-clause-classes
unfolding AreClassesOf
returns-then-shared-clause-classes c = subst AreClasses (sym c.byte_classes.ensures.value) c.byte_classes.ensures.in_range.classes.0

pub returns-then-shared-clause-alike : goal.returns-then-shared-clause-alike
returns-then-shared-clause-alike c q b d of =
    target-alike c.args.nfa.now c.byte_classes.ensures.in_range q b d
    (subst (λ classes. AreOfOneClass classes b d) c.byte_classes.ensures.value of)

pub returns-clause-alike : goal.returns-clause-alike
returns-clause-alike c q b d of = target-single c.args.nfa.now c.singletons.result c.singletons.ensures.value c.singletons.ensures.classes.len q b d of
