use Rattle.std.proofs.Common.{◌≡◌, suc, ◌-◌, true, length, subst, sym, ◌∙◌, arith}
use Rattle.std.specs.List.{list_all}
use Rattle.std.proofs.lemmas.List.{take_all}
use Rattle.rx_literal.specs.Order.{before, follows}
use Rattle.rx_literal.proofs.lemmas.trimming.OrderedLemmas.{all-up_to}
use Rattle.rx_literal.proofs.order.comes_last.Goals as goal

pub returns : goal.returns
returns c h =
    let order = c.args.order in
    let ls = c.args.literals.now in
    let l = c.args.literal.now in
    let last = c.index-literals-count in
    let comes : follows order l last.result ≡ true =
    sym (λ k. before order (c.as_bytes.ensures k) (c.as_bytes-2.ensures k)) ∙ sym c.is_before.ensures ∙ h in
    subst (λ ys. list_all (follows order l) ys ≡ true) (take_all (suc (length ls - 1)) ls (omega arith))
    (all-up_to order l ls (length ls - 1) last.result c.requires (omega arith) last.is comes)
