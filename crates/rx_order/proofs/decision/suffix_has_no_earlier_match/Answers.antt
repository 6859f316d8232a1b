use Rattle.std.proofs.Common.{◌≡◌, ◌∙◌, ap, subst, get_or}
use Rattle.std.proofs.lemmas.Result.{IfOk-weaker}
use Rattle.rx_order.specs.Order.{SuffixIsNoEarlier}
use Rattle.rx_order.proofs.decision.suffix_has_no_earlier_match.Goals as goal

pub returns-clause-order : goal.returns-clause-order
returns-clause-order c = λ h one.
    let x = c.index-hirs-0.result in
    let is : x ≡ h = c.index-hirs-0.is ∙ ap (λ hs. get_or hs 0 x) one in
    IfOk-weaker c.of_one.result _ _ (λ b order given. subst (λ g. SuffixIsNoEarlier g c.args.suffix.now) is (order given)) c.of_one.ensures.order
