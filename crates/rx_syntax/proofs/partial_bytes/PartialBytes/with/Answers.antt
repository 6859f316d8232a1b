use Rattle.std.proofs.Common.{◌++◌, sym, subst}
use Rattle.std.specs.Prelude.{IfOk}
use Rattle.rx_syntax.specs.PartialBytes.{IsOfBytes, ranges_of_bytes}
use Rattle.rx_syntax.specs.declared.partial_bytes.AddedBytes.{AddedBytes}
use Rattle.rx_syntax.proofs.partial_bytes.PartialBytes.with.Goals as goal

pub returns-in-Range : goal.returns-in-Range
returns-in-Range c ranges is =
    subst (λ (added : AddedBytes). IfOk c.with_range.result (λ class. IsOfBytes class (ranges ++ ranges_of_bytes added))) (sym c.in-Range.is)
    (c.with_range.ensures ranges is)

pub returns-in-Set : goal.returns-in-Set
returns-in-Set c ranges is =
    subst (λ (added : AddedBytes). IfOk c.with_set.result (λ class. IsOfBytes class (ranges ++ ranges_of_bytes added))) (sym c.in-Set.is)
    (c.with_set.ensures ranges is)
