use Rattle.std.proofs.Common.{subst, sym, ◌∙◌}
use Rattle.std.proofs.lemmas.Result.{IfOk-weaker}
use Rattle.rx_literal.specs.Slots.{AreCounted}
use Rattle.rx_literal.proofs.lemmas.trimming.SlotLemmas.{alone-counted}
use Rattle.rx_literal.proofs.slots.alone.Goals as goal

pub returns : goal.returns
returns c =
    let slots = c.deref-2.result.now in
    let counts = c.count.new.counts in
    let counted = subst (λ ss. AreCounted ss counts) (c.deref.ensures.value ∙ sym c.deref-2.ensures.value) c.count.ensures in
    IfOk-weaker c.marked.result _ _
    (λ marks is. alone-counted c.bytes_to_look_at.result c.args.literals.now slots counts marks.items c.bytes_to_look_at.ensures
    (c.deref-2.ensures.value ∙ c.in_ok-slots.ensures.value) counted is)
    c.marked.ensures
