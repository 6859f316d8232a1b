use Rattle.std.proofs.Common.{◌++◌, sym, subst}
use Rattle.std.specs.Prelude.{IfOk}
use Rattle.rx_syntax.specs.Partial.{IsOf, ranges_of}
use Rattle.rx_syntax.specs.declared.partial.Added.{Added}
use Rattle.rx_syntax.proofs.partial.PartialClass.with.Goals as goal

pub returns-in-Range : goal.returns-in-Range
returns-in-Range c ranges is =
    subst (λ (added : Added). IfOk c.with_range.result (λ class. IsOf class (ranges ++ ranges_of added))) (sym c.in-Range.is) (c.with_range.ensures ranges is)

pub returns-in-Set : goal.returns-in-Set
returns-in-Set c ranges is =
    subst (λ (added : Added). IfOk c.with_set.result (λ class. IsOf class (ranges ++ ranges_of added))) (sym c.in-Set.is) (c.with_set.ensures ranges is)
