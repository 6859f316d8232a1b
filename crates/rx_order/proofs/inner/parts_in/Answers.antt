use Rattle.std.proofs.Common.{◌∙◌, ap, sym, Some}
use Rattle.rx_hir.specs.HirViews.{kind_view}
use Rattle.rx_hir.proofs.JoinedLemmas.{list_of-expressions}
use Rattle.rx_order.specs.Inner.{parts_in}
use Rattle.rx_order.proofs.inner.parts_in.Goals as goal

pub returns-in-Concat : goal.returns-in-Concat
returns-in-Concat c =
    (λ i. Some (sym (list_of-expressions c.in-Concat.parts.items) i)) ∙ sym (ap (λ k. parts_in (kind_view k)) c.in-Concat.is) ∙ ap parts_in c.into_kind.ensures
