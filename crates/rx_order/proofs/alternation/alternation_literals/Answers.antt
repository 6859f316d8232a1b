use Rattle.std.proofs.Common.{◌∙◌, ap, map}
use Rattle.std.specs.Vec.{vec_items}
use Rattle.std.proofs.lemmas.Result.{IfOk-weaker}
use Rattle.rx_order.specs.Alternation.{texts_of_one}
use Rattle.rx_order.proofs.lemmas.AlternationLemmas.{made-runs}
use Rattle.rx_order.proofs.alternation.alternation_literals.Goals as goal

pub returns-in-LeftmostFirst-clause-runs : goal.returns-in-LeftmostFirst-clause-runs
returns-in-LeftmostFirst-clause-runs c = λ h one.
    IfOk-weaker c.of_one.result _ _ (λ made e. made-runs (λ v. map vec_items v.items) h made (e ∙ ap texts_of_one one)) c.of_one.ensures
