use Rattle.std.proofs.Common.{arith, ap, ◌∙◌}
use Rattle.rx_hir.specs.Cost.{states_of_copies}
use Rattle.rx_hir.proofs.CostLemmas.{copies-from}
use Rattle.rx_hir.proofs.accounting.states_of_copies.Goals as goal

pub returns-in-None-2 : goal.returns-in-None-2
returns-in-None-2 c =
    let some = ap (λ g. states_of_copies c.args.least g c.args.body) c.in-None.is in
    let e = some ∙ copies-from c.args.least c.args.body c.if-least-eq0.false in
    rw e (omega arith)
